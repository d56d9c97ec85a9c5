-- Two passes, of which the first adds the rows and the second turns the block, give the tile's coefficients (`rows-columns`), and their sizes the
-- tile's sum (`shares`), of any side. Assumes nothing.
use mathlib.Core.Path.{◌≡◌, sym, ap, ◌∙◌}
use mathlib.Core.List.{List, []}
use Prim.Native.Nat.{ℕ, zero, suc, ◌+◌, ◌*◌, ◌/◌, ◌≤◌, ◌<◌, zero-le}
use native.Mathlib.Nat.{not-suc-le-zero}
use native.Mathlib.Decide.{dec_lt}
use native.Mathlib.Omega.{arith}
use lib.ListN.{get_or, get_or-eq_default}
use lib.IntN.{ℤ, pos, ◌*ℤ◌, nat_abs, *ℤ_comm}
use Rattle.integers.specs.Lists.{tab}
use Rattle.integers.specs.Sum.{addition_z+, addition_n+, sum_z, sum_n}
use Rattle.integers.proofs.Ring.{*ℤ-assoc}
use Rattle.integers.proofs.Sum.{sum-ext, sum_first, sum-swap, sum-times, sum-le}
use Rattle.integers.proofs.Written.{tab-at, tab-length}
use Rattle.evc.specs.Tiles.{sign, coefficient, share, tile_sum}
use Rattle.satd_tiles.specs.Passes.{place, entry, RowWithin, BlockWithin, line, passed, rows_passed, row_sizes, block_sizes}
use Rattle.satd_tiles.proofs.Lines.{line-within, line-ext}

-- ---- entries of a block that is made entry by entry
module _ (n : ℕ) (f : ℕ → ℕ → ℤ) where
  made_at : (a b : ℕ) → a < n → b < n → entry (tab n (λ k. tab n (f k))) a b ≡ f a b
  made_at a b p q = ap (λ (x : List ℤ). place x b) (tab-at n (λ k. tab n (f k)) a [] p) ∙ tab-at n (f a) b (pos 0) q

  made-within : (B : ℕ) → ((a b : ℕ) → nat_abs (f a b) ≤ B) → BlockWithin B (tab n (λ k. tab n (f k)))
  made-within B h a b = row (dec_lt a n)
    where
      entries : Dec (b < n) → nat_abs (place (tab n (f a)) b) ≤ B
      entries (yes p) = rw (tab-at n (f a) b (pos 0) p) (h a b)
      entries (no p) = rw (get_or-eq_default (tab n (f a)) (pos 0) {n = b} (rw (tab-length n (f a)) (omega arith))) zero-le

      row : Dec (a < n) → nat_abs (entry (tab n (λ k. tab n (f k))) a b) ≤ B
      row (yes p) = rw (tab-at n (λ k. tab n (f k)) a [] p) (entries (dec_lt b n))
      row (no p) = rw (get_or-eq_default (tab n (λ k. tab n (f k))) [] {n = a} (rw (tab-length n (λ k. tab n (f k))) (omega arith))) zero-le

-- ---- the passes
pub passed-within : (n B : ℕ) (m : List (List ℤ)) → BlockWithin B m → BlockWithin (n * B) (passed n m)
unfolding passed
passed-within n B m h = made-within n (λ b j. line n (entry m j) b) (n * B) (λ b j. line-within B n (entry m j) b (h j))

passed-at : (n : ℕ) (m : List (List ℤ)) (b j : ℕ) → b < n → j < n → entry (passed n m) b j ≡ line n (entry m j) b
unfolding passed
passed-at n m b j p q = made_at n (λ b j. line n (entry m j) b) b j p q

turn : (a b c : ℤ) → a *ℤ b *ℤ c ≡ a *ℤ c *ℤ b
turn a b c = *ℤ-assoc a b c ∙ ap (λ (z : ℤ). a *ℤ z) (*ℤ_comm b c) ∙ sym (*ℤ-assoc a c b)

-- the coefficients of the rows' coefficients are the tile's
line-line : (n : ℕ) (d : ℕ → ℕ → ℤ) (a b : ℕ) → line n (λ j. line n (d j) b) a ≡ coefficient n d a b
unfolding line coefficient
line-line n d a b =
    sum-ext addition_z+ n (λ j. line n (d j) b *ℤ sign a j) (λ j. sum_z n (λ i. d j i *ℤ sign a j *ℤ sign b i))
    (λ j p. sym (sum-times n (sign a j) (λ i. d j i *ℤ sign b i))
    ∙ sum-ext addition_z+ n (λ i. d j i *ℤ sign b i *ℤ sign a j) (λ i. d j i *ℤ sign a j *ℤ sign b i) (λ i q. turn (d j i) (sign b i) (sign a j)))

-- ---- the rows added first: then the column pass leaves the coefficients turned
pub rows-passed-within : (n B : ℕ) (m : List (List ℤ)) → BlockWithin B m → BlockWithin (n * B) (rows_passed n m)
unfolding rows_passed
rows-passed-within n B m h = made-within n (λ a i. line n (λ j. entry m j i) a) (n * B) (λ a i. line-within B n (λ j. entry m j i) a (λ j. h j i))

rows-passed-at : (n : ℕ) (m : List (List ℤ)) (a i : ℕ) → a < n → i < n → entry (rows_passed n m) a i ≡ line n (λ j. entry m j i) a
unfolding rows_passed
rows-passed-at n m a i p q = made_at n (λ a i. line n (λ j. entry m j i) a) a i p q

coefficient-turned : (n : ℕ) (d : ℕ → ℕ → ℤ) (a b : ℕ) → coefficient n (λ i j. d j i) b a ≡ coefficient n d a b
unfolding coefficient
coefficient-turned n d a b =
    sum-swap addition_z+ n n (λ i j. d j i *ℤ sign b i *ℤ sign a j)
    ∙ sum-ext addition_z+ n (λ j. sum_z n (λ i. d j i *ℤ sign b i *ℤ sign a j)) (λ j. sum_z n (λ i. d j i *ℤ sign a j *ℤ sign b i))
    (λ j p. sum-ext addition_z+ n (λ i. d j i *ℤ sign b i *ℤ sign a j) (λ i. d j i *ℤ sign a j *ℤ sign b i) (λ i q. turn (d j i) (sign b i) (sign a j)))

rows-columns : (n : ℕ) (d : List (List ℤ)) (a b : ℕ) → a < n → b < n → entry (passed n (rows_passed n d)) b a ≡ coefficient n (entry d) a b
rows-columns n d a b p q =
    passed-at n (rows_passed n d) b a q p
    ∙ line-ext n (entry (rows_passed n d) a) (λ i. line n (λ j. entry d j i) a) b (λ i r. rows-passed-at n d a i p r)
    ∙ line-line n (λ i j. entry d j i) b a ∙ coefficient-turned n (entry d) a b

-- ---- sums of sizes
pub row-most : (n B : ℕ) (x : List ℤ) → RowWithin B x → row_sizes n x ≤ n * B
unfolding row_sizes
row-most n B x h = sum-le n B (λ i. nat_abs (place x i)) (λ i p. h i)

sizes-turned : (n : ℕ) (d : List (List ℤ)) → block_sizes n (passed n (rows_passed n d)) ≡ sum_n n (λ a. sum_n n (λ b. nat_abs (coefficient n (entry d) a b)))
unfolding block_sizes row_sizes
sizes-turned n d =
    sum-ext addition_n+ n (λ b. row_sizes n (get_or (passed n (rows_passed n d)) b [])) (λ b. sum_n n (λ a. nat_abs (coefficient n (entry d) a b)))
    (λ b q. sum-ext addition_n+ n (λ a. nat_abs (entry (passed n (rows_passed n d)) b a)) (λ a. nat_abs (coefficient n (entry d) a b))
    (λ a p. ap nat_abs (rows-columns n d a b p q)))
    ∙ sum-swap addition_n+ n n (λ b a. nat_abs (coefficient n (entry d) a b))

-- with the first number of all taken out, and a quarter of it put back, a sum of sizes is the sum of shares
quarter : (n : ℕ) (f : ℕ → ℕ → ℕ)
    → (sum_n (suc n) (λ a. sum_n (suc n) (λ b. share a b (f a b))) + f 0 0 ≡ sum_n (suc n) (λ a. sum_n (suc n) (f a)) + f 0 0 / 4)
    × (f 0 0 ≤ sum_n (suc n) (λ a. sum_n (suc n) (f a)))
quarter n f =
    let a = sum_first addition_n+ n (λ a. sum_n (suc n) (λ b. share a b (f a b))) in
    let b = sum_first addition_n+ n (λ b. share 0 b (f 0 b)) in
    let c = sum_first addition_n+ n (λ a. sum_n (suc n) (f a)) in
    let e = sum_first addition_n+ n (f 0) in
    (omega arith, omega arith)

-- a tile d by the code: the passes m and c, the sum of all sizes, and the DC's size
pub record ByPasses (n : ℕ) (d m c : List (List ℤ)) (all dc : ℕ) : Type 0 where
  pub rows : m ≡ rows_passed n d
  pub columns : c ≡ passed n m
  pub total : all ≡ block_sizes n c
  pub first : dc ≡ nat_abs (entry c 0 0)

-- it has the tile's sum
pub shares : {n all dc : ℕ} {d m c : List (List ℤ)} → 1 ≤ n → ByPasses n d m c all dc → (tile_sum n (entry d) + dc ≡ all + dc / 4) × (dc ≤ all)
unfolding tile_sum
shares {n = zero} h t = absurd (not-suc-le-zero h)
shares {n = suc n} {d = d} {c = c} h t =
    let e : c ≡ passed (suc n) (rows_passed (suc n) d) = t.columns ∙ ap (passed (suc n)) t.rows in
    rw (t.total, t.first, e, sizes-turned (suc n) d, rows-columns (suc n) d 0 0 (omega arith) (omega arith))
    (quarter n (λ a b. nat_abs (coefficient (suc n) (entry d) a b)))
