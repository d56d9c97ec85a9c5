-- What a crate's answer says of a call; and that every accepted call of a stage is done by `itxb0_small` or `itxb1_small`, sizes 2^1 to 2^3, or by `itx_lines`,
-- sizes 2^4 to 2^6, so that one that neither did is refused, and leaves its output as it was. Assumes nothing.
use mathlib.Core.Path.{◌≡◌, refl, sym, ap, ◌∙◌}
use mathlib.Core.Bool.{Bool, true, false, cond}
use mathlib.Core.List.{List}
use Prim.Native.Nat.{ℕ, zero, suc, ◌≤◌, ◌<◌}
use native.Mathlib.Omega.{arith}
use native.Mathlib.Decide.{dec_lt}
use lib.IntN.{ℤ}
use Rattle.order.specs.Jobs.{if_accepted}
use Rattle.itx_halving.specs.Taken.{takes}
use Rattle.itx_halving.proofs.Taken.{takes-accepted, not_taken, too_large}

-- ---- what a crate's answer says, of the refusal number z and the stage's exit X of an output d₀
module _ (lo hi least a b : ℕ) (z : List ℤ → ℕ) (X : List ℤ → List ℤ) (r : Bool) {d : List ℤ} (d₀ : List ℤ) (taken_is : r ≡ takes lo hi least a b (z d₀)) (exit-is : d ≡ cond r (X d₀) d₀) where
  pub did : r ≡ true → (0 ≡ z d₀) × (d ≡ X d₀)
  did t = (sym (takes-accepted lo hi least a b (z d₀) (sym taken_is ∙ t)), exit-is ∙ ap (λ (r : Bool). cond r (X d₀) d₀) t)

  pub not-taken-is : r ≡ false → takes lo hi least a b (z d₀) ≡ false
  not-taken-is f = sym taken_is ∙ f

  pub unchanged : r ≡ false → d ≡ d₀
  unchanged f = exit-is ∙ ap (λ (r : Bool). cond r (X d₀) d₀) f

-- ---- a call that nobody did
-- what is refused is left as it was
pub refused : {X : Type 0} (z : ℕ) (x y : X) → (z ≡ 0 → ⊥) → y ≡ if_accepted z x y
refused zero x y f = absurd (f refl)
refused (suc z) x y f = refl

-- of a refusal number z that is 0 only where the size is one of the six
module _ (a b z : ℕ) (sizes : z ≡ 0 → (1 ≤ a) × (a ≤ 6)) (s : takes 1 3 0 a b z ≡ false) (l : takes 4 6 0 a b z ≡ false) where
  pub nobody : z ≡ 0 → ⊥
  nobody e = by (dec_lt 3 a)
    where
      by : Dec (3 < a) → ⊥
      by (yes h) = not_taken 4 6 0 a b z l (omega arith) (sizes e).1 (omega arith) e
      by (no f) = not_taken 1 3 0 a b z s (sizes e).0 (omega arith) (omega arith) e

-- a size above 2^3 is neither `itxb0_small`'s nor `itxb1_small`'s
pub not-small : (a b z : ℕ) → 3 < a → takes 1 3 0 a b z ≡ false
not-small a b z h = sym (too_large 1 3 0 a b z (omega arith) h)
