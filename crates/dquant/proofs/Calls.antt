-- What a caller of `evc_dquant` cites: a call on exactly its area. Assumes nothing.
use Prim.Native.Nat.{ℕ, ◌≤◌}
use native.Mathlib.Omega.{arith}
use mathlib.Core.Path.{◌≡◌}
use mathlib.Core.List.{List, append-nil, map}
use lib.IntN.{ℤ}
use lib.ListN.{length}
use lib.Seq.{take-length, drop-length}
use Rattle.evc.specs.Tests.{samples_of}
use Rattle.evc.specs.Dequantizer.{dequantized, dquant_tests, dquant_number, dquant_exit}
use Rattle.evc.proofs.Tests.{first-none, tested}

-- a buffer of exactly the area's samples: the call is accepted, and each coefficient is dequantized
pub dquant-whole : (logw logh : ℕ) (by offset : ℤ) (shift : ℕ) (l : List ℤ) → logw ≤ 6 → logh ≤ 6 → shift ≤ 31 → length l ≡ samples_of logw logh
    → (dquant_number (length l) logw logh shift ≡ 0) × (dquant_exit logw logh by offset shift l ≡ map (dequantized by offset shift) l)
unfolding dquant_number dquant_exit
dquant-whole logw logh by offset shift l w h s e =
    let a : samples_of logw logh ≤ length l = omega arith in
    let z = first-none (dquant_tests (length l) logw logh shift) (search tested) in
    (z, rw (z, ← e, take-length, drop-length, append-nil))
