-- The mirror symmetry at every size: ONE test that antt computes over the 4,096 stored numbers, and what it gives. Size m + m takes the
-- rows that are multiples of s, where m·s is 32: over its m + m columns its even rows are symmetric, its odd rows antisymmetric.
-- Last, that document 01's tables have the property that specs/Mirror.antt asks of a table. Assumes nothing.
use mathlib.Core.Path.{◌≡◌, refl, sym, ap, ◌∙◌}
use mathlib.Core.Bool.{Bool, true, cond}
use mathlib.Core.List.{List}
use Prim.Native.Nat.{ℕ, zero, suc, ◌+◌, ◌-◌, ◌*◌, ◌/◌, ◌^◌, ◌≤◌, ◌<◌}
use native.Mathlib.Omega.{arith}
use native.Mathlib.Nat.{mul_comm, mul-le-mul, le_refl, le-mul_of_pos_right}
use lib.Dec.{T, eqb, eqb→eq}
use lib.ListN.{get_or, drop}
use lib.Seq.{get_or-drop}
use lib.IntN.{ℤ, pos, neg_ℤ}
use Rattle.integers.proofs.Every.{both, both_left, both_right, eq_z, eq_z→eq, below, below_at}
use Rattle.evc.specs.Table.{tm64, tm}
use Rattle.itx_table.specs.Mirror.{Mirrored}
use Rattle.itx_table.proofs.Stored.{stored}
use Rattle.itx_table.proofs.Rule.{stored-flat, entry}

-- ---- the test: of one row from its start, of rows 2k and 2k+1 of a size, of a size, of all sizes
row : ℕ → List ℤ
row k = drop (k * 64) stored

abbrev place : (ℤ → ℤ) → ℕ → List ℤ → ℕ → Bool
place f m l n = eq_z (get_or l (m + m - suc n) (pos 0)) (f (get_or l n (pos 0)))

abbrev even-row : ℕ → ℕ → ℕ → Bool
even-row m s k = below (place (λ z. z) m (row (k * (s + s)))) m

abbrev odd-row : ℕ → ℕ → ℕ → Bool
odd-row m s k = below (place neg_ℤ m (row (suc (k + k) * s))) m

rows : ℕ → ℕ → ℕ → Bool
rows m s k = both (even-row m s k) (odd-row m s k)

size : ℕ → ℕ → Bool
size m s = cond (eqb (m * s) 32) (below (rows m s) m) true

all-mirrored : T (below (λ m. below (size m) 33) 33)
unfolding size rows row stored
all-mirrored = tt

-- ---- what it gives
read : (k n : ℕ) → k < 64 → n < 64 → get_or (row k) n (pos 0) ≡ tm64 k n
unfolding row
read k n hk hn = rw (get_or-drop, stored-flat) (entry k n hk hn)

-- a factor of 32 is at most 32, and the other is not 0
factor : (m s : ℕ) → m * s ≡ 32 → (m < 33) × (0 < s)
factor m zero e = (omega arith, omega arith)
factor m (suc s) e = (omega (arith, le-mul_of_pos_right {m = suc s} m (omega arith)), omega arith)

module _ (m s : ℕ) (e : m * s ≡ 32) (k n : ℕ) (hk : k < m) (hn : n < m) where
  here : T (rows m s k)
  unfolding size
  here =
      let t : T (size m s) =
      below_at (size m) 33 (below_at (λ m. below (size m) 33) 33 all-mirrored m (factor m s e).0) s (factor s m (mul_comm s m ∙ e)).0 in
      below_at (rows m s) m (rw e at t) k hk

  -- both rows are below 64
  low : k * s + s ≤ 32
  low = omega (arith, mul-le-mul hk (le_refl s))

  carry : (f : ℤ → ℤ) (r : ℕ) → r < 64 → T (below (place f m (row r)) m) → tm64 r (m + m - suc n) ≡ f (tm64 r n)
  carry f r h t =
      sym (read r (m + m - suc n) h (omega (arith, factor m s e)))
      ∙ eq_z→eq _ _ (below_at (place f m (row r)) m t n hn)
      ∙ ap f (read r n h (omega (arith, factor m s e)))

  pub even-mirror : tm64 (k * (s + s)) (m + m - suc n) ≡ tm64 (k * (s + s)) n
  unfolding rows
  even-mirror = carry (λ z. z) (k * (s + s)) (omega (arith, low, factor m s e)) (both_left (even-row m s k) (odd-row m s k) here)

  pub odd-mirror : tm64 (suc (k + k) * s) (m + m - suc n) ≡ neg_ℤ (tm64 (suc (k + k) * s) n)
  unfolding rows
  odd-mirror = carry neg_ℤ (suc (k + k) * s) (omega (arith, low, factor m s e)) (both_right (even-row m s k) (odd-row m s k) here)

-- ---- size N: its table is every (64/N)th row, so its level m + m with stride s is size m + m of the whole with stride s·(64/N)
module _ (N : ℕ) (whole : N * (64 / N) ≡ 64) where
  half : (m s : ℕ) → (m + m) * s ≡ N → m * (s * (64 / N)) ≡ 32
  half m s e = let h : (m + m) * s * (64 / N) ≡ 64 = rw e whole in omega arith

  of_size : Mirrored N (tm N)
  unfolding tm64
  of_size =
      record {
        even =
            λ m s k n e p hk hn.
            let r : k * (s + s) * (64 / N) ≡ k * (s * (64 / N) + s * (64 / N)) = omega arith in
            rw r (even-mirror m (s * (64 / N)) (half m s e) k n hk hn);
        odd =
            λ m s k n e p hk hn.
            let r : suc (k + k) * s * (64 / N) ≡ suc (k + k) * (s * (64 / N)) = omega arith in
            rw r (odd-mirror m (s * (64 / N)) (half m s e) k n hk hn);
        two = λ e. rw e (refl, (refl, refl));
      }

pub tm-mirrored : (l : ℕ) → l ≤ 6 → Mirrored (2 ^ l) (tm (2 ^ l))
tm-mirrored l h = of_size (2 ^ l) (eqb→eq _ _ (below_at (λ l. eqb (2 ^ l * (64 / 2 ^ l)) 64) 7 tt l (omega arith)))
