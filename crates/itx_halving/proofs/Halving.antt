-- The halving theorem, once over the size 2m and over any table T that is mirrored: the first half of the outputs is E + O, the second,
-- from its end, E - O. E is the product of size m with every second row and input, O the odd half. Assumes nothing.
use mathlib.Core.Path.{◌≡◌, sym, ap, ◌∙◌}
use Prim.Native.Nat.{ℕ, suc, ◌+◌, ◌*◌, ◌-◌, ◌≤◌, ◌<◌}
use native.Mathlib.Nat.{add-mul, mul-add, mul-one}
use lib.IntN.{ℤ, neg_ℤ, ◌+ℤ◌, ◌-ℤ◌, ◌*ℤ◌}
use Rattle.integers.specs.Sum.{addition_z+, sum_z}
use Rattle.integers.proofs.Ring.{neg-*ℤ}
use Rattle.integers.proofs.Sum.{sum-ext, sum-halves, sum-neg}
use Rattle.itx_table.specs.Mirror.{Mirrored}
use Rattle.itx_halving.specs.Line.{dot, odd}

twice : (k q : ℕ) → (k + k) * q ≡ k * (q + q)
twice k q = add-mul k k q ∙ sym (mul-add k q q)

module _ (T : ℕ → ℕ → ℤ) (q m : ℕ) (x : ℕ → ℤ) where
  -- the even places of a size are the size half as large, at twice the stride. No fact of the table is used
  pub split : (n : ℕ) → dot T q (m + m) n x ≡ dot T (q + q) m n x +ℤ odd T q m n x
  unfolding dot odd
  split n =
      sum-halves addition_z+ m (λ k. T (k * q) n *ℤ x (k * q))
      ∙ ap (λ (z : ℤ). z +ℤ sum_z m (λ k. T (suc (k + k) * q) n *ℤ x (suc (k + k) * q)))
      (sum-ext addition_z+ m (λ k. T ((k + k) * q) n *ℤ x ((k + k) * q)) (λ k. T (k * (q + q)) n *ℤ x (k * (q + q))) (λ k h. rw (twice k q)))

  module _ {N : ℕ} (t : Mirrored N T) (level : (m + m) * q ≡ N) (size : 2 ≤ m) (n : ℕ) (hn : n < m) where
    even-same : dot T (q + q) m (m + m - suc n) x ≡ dot T (q + q) m n x
    unfolding dot
    even-same = sum-ext addition_z+ m _ _ (λ k h. ap (λ (z : ℤ). z *ℤ x (k * (q + q))) (t.even m q k n level size h hn))

    odd-turned : odd T q m (m + m - suc n) x ≡ neg_ℤ (odd T q m n x)
    unfolding odd
    odd-turned =
        sum-ext addition_z+ m _ (λ k. neg_ℤ (T (suc (k + k) * q) n *ℤ x (suc (k + k) * q)))
        (λ k h.
        ap (λ (z : ℤ). z *ℤ x (suc (k + k) * q)) (t.odd m q k n level size h hn)
        ∙ neg-*ℤ (T (suc (k + k) * q) n) (x (suc (k + k) * q)))
        ∙ sum-neg m (λ k. T (suc (k + k) * q) n *ℤ x (suc (k + k) * q))

    pub mirrored : dot T q (m + m) (m + m - suc n) x ≡ dot T (q + q) m n x -ℤ odd T q m n x
    mirrored =
        split (m + m - suc n) ∙ ap (λ (z : ℤ). z +ℤ odd T q m (m + m - suc n) x) even-same
        ∙ ap (λ (z : ℤ). dot T (q + q) m n x +ℤ z) odd-turned

-- the product of a whole size, row by row
pub whole : (T : ℕ → ℕ → ℤ) (N n : ℕ) (x : ℕ → ℤ) → dot T 1 N n x ≡ sum_z N (λ k. T k n *ℤ x k)
unfolding dot
whole T N n x = sum-ext addition_z+ N _ _ (λ k h. ap (λ (i : ℕ). T i n *ℤ x i) (mul-one k))
