-- `sample_tests::tests::bad_samples` meets its contract. Assumes nothing.
use mathlib.Core.Path.{◌≡◌, refl, sym}
use mathlib.Core.Bool.{Bool, true, false, not}
use Prim.Native.Nat.{ℕ, ◌/◌, ◌^◌, ◌≤◌}
use native.Mathlib.Omega.{arith}
use lib.Dec.{eqb, leb}
use lib.Pow.{pow_mono}
use borrow.Author.Tests.{eqb-true, eqb-false, le-leb, lt-leb}
use Rattle.integers.proofs.Bits.{div-some, div-none}
use Rattle.sample_tests.proofs.tests.bad_samples.Goals as goal

pub returns-then-depth-gt15 : goal.returns-then-depth-gt15
returns-then-depth-gt15 c =
    let a = c.args in
    let h : 16 ≤ a.depth = omega arith in
    let p : 2 ^ 16 ≤ 2 ^ a.depth = pow_mono h in
    sym (lt-leb (2 ^ a.depth) a.any (omega arith))

-- a mark has a bit at the depth or above exactly where it reaches 2^depth
reached : (n k : ℕ) → not (eqb (n / 2 ^ k) 0) ≡ leb (2 ^ k) n
reached n k = go (eqb (n / 2 ^ k) 0) refl
  where
    go : (t : Bool) → eqb (n / 2 ^ k) 0 ≡ t → not t ≡ leb (2 ^ k) n
    go true e = sym (lt-leb (2 ^ k) n (div-none n k (eqb-true (n / 2 ^ k) 0 e)))
    go false e = sym (le-leb (2 ^ k) n (div-some n k (eqb-false (n / 2 ^ k) 0 e)))

pub returns : goal.returns
returns c = reached c.args.any c.args.depth
