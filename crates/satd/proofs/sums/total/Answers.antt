-- `satd::sums::total` meets its contract. Assumes nothing.
use Rattle.std.proofs.Common.{◌≡◌, ℕ, ℤ, sym, ap, ◌∙◌, arith, inl, inr}
use Rattle.evc.specs.Tiles.{satd_total}
use Rattle.block_rows.specs.Small.{apart_from}
use Rattle.satd.specs.Sides.{Side}
use Rattle.satd.proofs.sums.total.Goals as goal

total_at : (n k w h : ℕ) (d : ℕ → ℕ → ℤ) {r : ℕ} → n ≡ k → r ≡ satd_total k w h d → r ≡ satd_total n w h d
total_at n k w h d e p = p ∙ ap (λ (m : ℕ). satd_total m w h d) (sym e)

-- a side that is neither 8 nor 4 is 2
last : {n : ℕ} → Side n → (n ≡ 8 → ⊥) → (n ≡ 4 → ⊥) → n ≡ 2
last (inl e) p q = absurd (p e)
last (inr (inl e)) p q = absurd (q e)
last (inr (inr e)) p q = e

pub returns-in-8 : goal.returns-in-8
returns-in-8 c = total_at _ 8 _ _ _ c.in-8.is c.sized.ensures

pub returns-in-4 : goal.returns-in-4
returns-in-4 c = total_at _ 4 _ _ _ c.in-4.is c.sized-in-4.ensures

pub returns-in_default : goal.returns-in_default
returns-in_default c =
    let a = c.args in
    total_at a.side 2 a.w a.h (apart_from a.a.now a.a_at a.a_stride a.b.now 0 a.w)
    (last c.requires.side (λ e. omega arith) (λ e. omega arith)) c.sized-in_default.ensures
