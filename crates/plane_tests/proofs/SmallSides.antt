-- Sides that are given by logarithms: how large they are, and what `1 << k` is. Assumes nothing.
use mathlib.Core.Path.{◌≡◌}
use mathlib.Core.Bool.{false, ◌||◌}
use Prim.Native.Nat.{ℕ, ◌*◌, ◌%◌, ◌^◌, ◌≤◌}
use native.Mathlib.Omega.{arith}
use lib.Dec.{ltb}
use lib.Pow.{pow_pos, pow_mono}
use borrow.Author.Tests.{ltb-false}
use mir.Syntax.{w64}
use mir.Val.{bits}
use Rattle.integers.proofs.Bits.{one_shl}
use Rattle.integers.proofs.Bools.{neither_left, neither_right}

pub logs-small : (j k : ℕ) → ltb 6 j || ltb 6 k ≡ false → (j ≤ 6) × (k ≤ 6)
logs-small j k e = (ltb-false 6 j (neither_left (ltb 6 j) (ltb 6 k) e), ltb-false 6 k (neither_right (ltb 6 j) (ltb 6 k) e))

pub side-small : (k n : ℕ) → n ≡ 2 ^ k → k ≤ 6 → (1 ≤ n) × (n ≤ 64)
side-small k n e h = let p = pow_pos k in let q : 2 ^ k ≤ 2 ^ 6 = pow_mono h in (omega arith, omega arith)

-- the side, as code forms it
abbrev pub shifted : ℕ → ℕ
shifted k = (1 * 2 ^ k) % 2 ^ bits w64

pub shifted-is : (k : ℕ) → k ≤ 6 → shifted k ≡ 2 ^ k
shifted-is k h = one_shl w64 k (omega arith)
