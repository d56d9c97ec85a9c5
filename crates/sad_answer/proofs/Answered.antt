-- What `sad_answer` answers of an allowed depth and a sum of 32 bits. Assumes nothing.
use mathlib.Core.Path.{◌≡◌}
use mathlib.Core.List.{[], ◌∷◌}
use Prim.Native.Nat.{ℕ, ◌-◌, ◌/◌, ◌^◌, ◌≤◌}
use native.Mathlib.Nat.{div-le_self, le_trans}
use lib.Dec.{leb}
use borrow.Author.Tests.{le-ltb}
use Rattle.std.proofs.Common.{min, arith}
use Rattle.evc.specs.declared.Refusal.TheVariants.{Sample}
use Rattle.evc.specs.Tests.{◌when◌, first, reply}
use Rattle.evc.specs.Calls.{depth_test}
use Rattle.evc.proofs.Tests.{inside-no}
use Rattle.sad_answer.specs.In32.{in32}

-- the code's least of a number and the largest of 32 bits
pub in32-min : (n : ℕ) → min n 4294967295 ≡ in32 n
unfolding in32
in32-min n = grind arith

pub answered :
    (sum any depth : ℕ) → (8 ≤ depth) × (depth ≤ 14) → sum ≤ 4294967295 →
    reply (first (depth_test depth ∷ (Sample when leb (2 ^ depth) any) ∷ [])) (in32 (sum / 2 ^ (depth - 8)))
    ≡ reply (first ((Sample when leb (2 ^ depth) any) ∷ [])) (sum / 2 ^ (depth - 8))
unfolding in32
answered sum any depth d h =
    rw (inside-no 8 14 depth d.0 d.1, le-ltb 4294967295 (sum / 2 ^ (depth - 8)) (le_trans (div-le_self sum (2 ^ (depth - 8))) h))
