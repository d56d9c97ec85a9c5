-- The fold rule: ONE test that antt computes over the 4,096 stored numbers, and what it gives. Last, two laws of the rule
-- itself: the bound on an entry, and the symmetry of the odd rows. Assumes nothing.
use mathlib.Core.Path.{◌≡◌, refl, ◌∙◌}
use mathlib.Core.Bool.{Bool, true, false, cond}
use Prim.Native.Nat.{ℕ, suc, ◌+◌, ◌*◌, ◌/◌, ◌%◌, ◌≤◌, ◌<◌}
use native.Mathlib.Omega.{arith}
use borrow.Author.Tests.{ne_eqb}
use lib.Dec.{T, eqb, leb, leb→le}
use lib.ListN.{length, get_or}
use lib.IntN.{ℤ, pos, nat_abs}
use Rattle.integers.proofs.Every.{every, at, below, below_at, eq_z, eq_z→eq}
use Rattle.integers.proofs.Written.{tab-at, is-tab, grid-at}
use Rattle.evc.specs.Table.{fold, tm64}
use Rattle.itx_table.specs.Flat.{flat}
use Rattle.itx_table.proofs.Stored.{stored}

-- ---- the rule
right : ℕ → ℤ → Bool
right i z = eq_z z (tm64 (i / 64) (i % 64))

all_right : T (every right 0 stored)
unfolding right stored tm64
all_right = tt

count : length stored ≡ 4096
unfolding stored
count = refl

pub stored-flat : stored ≡ flat
unfolding right flat
stored-flat = is-tab 4096 _ stored (pos 0) count (λ i h. eq_z→eq _ _ (at right stored all_right i (omega (arith, count))))

pub entry : (k n : ℕ) → k < 64 → n < 64 → get_or flat (k * 64 + n) (pos 0) ≡ tm64 k n
unfolding flat
entry k n hk hn = tab-at 4096 _ (k * 64 + n) (pos 0) (omega arith) ∙ grid-at tm64 k n 64 hn

-- ---- no entry is above 90 in magnitude, at any row and column
small : T (below (λ r. leb (nat_abs (fold r)) 90) 256)
small = tt

pub tm64-within : (k n : ℕ) → nat_abs (tm64 k n) ≤ 90
unfolding tm64
tm64-within k n = first-row (eqb k 0)
  where
    r : ℕ
    r = (2 * n + 1) * k % 256

    first-row : (b : Bool) → nat_abs (cond b (pos 64) (fold r)) ≤ 90
    first-row true = omega arith
    first-row false = leb→le (nat_abs (fold r)) 90 (below_at (λ r. leb (nat_abs (fold r)) 90) 256 small r (omega arith))

-- ---- the odd multiples of s as rows, cut to as many columns, are a block that is its own transpose: a column of it can be read as a row
pub odd-swap : (s r n : ℕ) → 0 < s → tm64 (suc (r + r) * s) n ≡ tm64 (suc (n + n) * s) r
unfolding tm64
odd-swap s r n h =
    let e : (2 * n + 1) * (suc (r + r) * s) ≡ (2 * r + 1) * (suc (n + n) * s) = omega arith in
    rw (ne_eqb (suc (r + r) * s) 0 (λ z. omega arith), ne_eqb (suc (n + n) * s) 0 (λ z. omega arith), e)
