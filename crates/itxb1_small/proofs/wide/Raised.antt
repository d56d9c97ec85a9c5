-- The step from size m to 2m with a number added to the even half. Assumes nothing.
use mathlib.Core.Path.{◌≡◌, ap, ◌∙◌}
use mathlib.Core.List.{List}
use Prim.Native.Nat.{ℕ, suc, ◌+◌, ◌-◌, ◌≤◌, ◌<◌}
use native.Mathlib.Omega.{arith}
use lib.ListN.{length, get_or}
use lib.IntN.{ℤ, pos, ◌+ℤ◌, ◌-ℤ◌, nat_abs}
use Rattle.integers.proofs.Dif.{of, difs, dif-eq}
use Rattle.integers.proofs.Bound.{Within, within-add, within-sub}
use Rattle.evc.specs.Stages.{product}
use Rattle.itx_table.specs.Mirror.{Mirrored}
use Rattle.itx_halving.specs.Line.{rows}
use Rattle.itx_halving.specs.Straight.{Odd, Line}
use Rattle.itx_halving.proofs.Straight.{both, low_sum, high_sum}
use Rattle.itxb1_small.specs.Sums.{Raised}

-- a number added before the halves part, or after
past-add : (a c b : ℤ) → a +ℤ c +ℤ b ≡ a +ℤ b +ℤ c
past-add a c b = rw (of a, of b, of c) (simp difs (dif-eq _ _ _ _ (omega arith)))

past-sub : (a c b : ℤ) → a +ℤ c -ℤ b ≡ a -ℤ b +ℤ c
past-sub a c b = rw (of a, of b, of c) (simp difs (dif-eq _ _ _ _ (omega arith)))

-- the even half e, and the shares o of the odd inputs
module _ (B C : ℕ) (t : List ℤ) (w : ℕ) (x : List ℤ) (l j m : ℕ) (e r : List ℤ) (o : ℕ → ℤ)
    (g : Mirrored (m + m) (rows t w))
    (s : 2 ≤ m)
    (even : Line B (rows t (w + w)) m (l + l) x j e)
    (odds : (n : ℕ) → n < m → Odd C (rows t w) m l x j n (o n))
    (long : length r ≡ m + m) where
  abbrev sums : ℕ → ℤ
  sums n = product (rows t w) (m + m) l x j n

  pub raised :
      (A : ℕ) (c : ℤ) →
      nat_abs c ≤ A →
      ((n : ℕ) → n < m → get_or r n (pos 0) ≡ get_or e n (pos 0) +ℤ c +ℤ o n) →
      ((n : ℕ) → n < m → get_or r (m + m - suc n) (pos 0) ≡ get_or e n (pos 0) +ℤ c -ℤ o n) →
      Raised (B + A + C) (rows t w) (m + m) l x j c r
  raised A c b low high = record { long = long; at = λ n h. (right n h).0; small = λ n h. (right n h).1 }
    where
      half : (n : ℕ) → n < m → Within (B + A) (get_or e n (pos 0) +ℤ c)
      half n h = within-add {x = get_or e n (pos 0)} {y = c} (record { bound = even.small n h }) (record { bound = b })

      right : (n : ℕ) → n < m + m → (get_or r n (pos 0) ≡ sums n +ℤ c) × (nat_abs (get_or r n (pos 0)) ≤ B + A + C)
      right =
          both m (λ n. (get_or r n (pos 0) ≡ sums n +ℤ c) × (nat_abs (get_or r n (pos 0)) ≤ B + A + C))
          (λ n h. (
            low n h ∙ past-add (get_or e n (pos 0)) c (o n) ∙ ap (λ (z : ℤ). z +ℤ c) (low_sum B C t w x l j m e r o g s even odds long n h),
            rw (low n h) (within-add {y = o n} (half n h) (record { bound = (odds n h).small })).bound,
          ))
          (λ n h. (
            high n h ∙ past-sub (get_or e n (pos 0)) c (o n) ∙ ap (λ (z : ℤ). z +ℤ c) (high_sum B C t w x l j m e r o g s even odds long n h),
            rw (high n h) (within-sub {y = o n} (half n h) (record { bound = (odds n h).small })).bound,
          ))
