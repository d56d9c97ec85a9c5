-- What a block's sums are, put together from those of the inputs' halves. Assumes nothing.
use mathlib.Core.Path.{◌≡◌, sym, ap, ap₂, ◌∙◌}
use mathlib.Core.List.{List}
use Prim.Native.Nat.{ℕ, ◌+◌, ◌*◌, ◌/◌, ◌%◌, ◌<◌, ◌≤◌}
use native.Mathlib.Omega.{arith}
use native.Mathlib.Nat.{mod-lt}
use lib.ListN.{length, get_or}
use lib.IntN.{ℤ, pos, ◌+ℤ◌, ◌*ℤ◌, nat_abs}
use Rattle.integers.specs.Z.{floor_pow, clip16}
use Rattle.integers.specs.Sum.{addition_z+, sum_z}
use Rattle.integers.specs.Lists.{tab}
use Rattle.integers.proofs.Dif.{of, dif-eq, difs}
use Rattle.integers.proofs.Bound.{within-add, within-mono}
use Rattle.integers.proofs.Sum.{sum-ext, sum-spread}
use Rattle.integers.proofs.Written.{tab-at, tab-length, tab-ext}
use Rattle.evc.specs.Table.{tm}
use Rattle.evc.specs.Stages.{rounding, stage_two_at}
use Rattle.itx_table.specs.Columns.{column}
use Rattle.itx_table.proofs.ColumnSums.{column-within}
use Rattle.itx_halving.specs.Lines.{Amount, Next}
use Rattle.itx_halving.specs.Blocks.{input, Rows, Blocked}
use Rattle.itx_halving.proofs.Lines.{next-ext, rounding-within}
use Rattle.itx_halving.proofs.Products.{crossed-sum, block-product}
use Rattle.itx_lanes.specs.Lanes.{lane_sum}
use Rattle.itxb1_blocks.specs.Halves.{upper, rest, joined, tail_cell, TailReads, Offsets}
use Rattle.itxb1_blocks.proofs.Parts.{halves}

module _ (N l j0 : ℕ) (src : List ℤ) (some : 0 < N) where
  two_at :
      (shift i : ℕ) (h a c : ℤ) →
      h ≡ sum_z N (λ k. tm N k (i % N) *ℤ upper (input src l j0 k (i / N))) →
      a ≡ sum_z N (λ k. tm N k (i % N) *ℤ rest (input src l j0 k (i / N))) →
      c ≡ column N (i % N) +ℤ rounding shift →
      joined shift h a c ≡ stage_two_at (tm N) N l shift src (j0 * N + i)
  unfolding joined stage_two_at column
  two_at shift i h a c p q r =
      ap (λ (z : ℤ). clip16 (floor_pow z shift))
      (order h a c (column N (i % N)) (rounding shift) r
      ∙ ap (λ (z : ℤ). z +ℤ rounding shift)
      (ap₂ (λ (x y : ℤ). pos 65536 *ℤ x +ℤ y +ℤ column N (i % N)) p q
      ∙ sym (sum-spread N (pos 65536) (pos 32768) (λ k. tm N k (i % N)) (λ k. upper (at k)) (λ k. rest (at k)))
      ∙ sum-ext addition_z+ N _ _ (λ k t. ap (λ (z : ℤ). tm N k (i % N) *ℤ z) (sym (halves (at k))))
      ∙ sym (block-product N l j0 src some i)))
    where
      at : ℕ → ℤ
      at k = input src l j0 k (i / N)

      order : (x y z u v : ℤ) → z ≡ u +ℤ v → x *ℤ pos 65536 +ℤ y +ℤ z ≡ pos 65536 *ℤ x +ℤ y +ℤ u +ℤ v
      order x y z u v e = rw e (rw (of x, of y, of u, of v) (simp difs (dif-eq _ _ _ _ (omega arith))))

-- ---- what stage two adds at each place
pub offsets_are :
    (N : ℕ) (col : List ℤ) {add : ℤ} {shift : ℕ} {c : List ℤ} →
    Amount add shift →
    col ≡ tab N (column N) →
    c ≡ tab N (λ k. get_or col k (pos 0) +ℤ add) →
    Offsets c N shift
offsets_are N col a p e = record {
  most = a.most;
  is = e ∙ tab-ext N _ _ (λ k r. ap₂ ◌+ℤ◌ (ap (λ (l : List ℤ). get_or l k (pos 0)) p ∙ tab-at N (column N) k (pos 0) r) a.is);
}

module _ {c : List ℤ} {N shift : ℕ} (o : Offsets c N shift) where
  offset_at : (n : ℕ) → n < N → get_or c n (pos 0) ≡ column N n +ℤ rounding shift
  offset_at n h = ap (λ (l : List ℤ). get_or l n (pos 0)) o.is ∙ tab-at N _ n (pos 0) h

  offset-long : length c ≡ N
  offset-long = ap length o.is ∙ tab-length N _

  offset-small : N ≤ 64 → (n : ℕ) → n < N → nat_abs (get_or c n (pos 0)) ≤ 4294967296
  offset-small m n h =
      rw (offset_at n h)
      (within-mono {n = 4294967296} (omega arith) (within-add (column-within N n) (rounding-within shift o.most))).bound

  -- with the sums of both halves it is what the tail reads
  pub tail-reads : {h a : List ℤ} → length h ≡ N * 16 → length a ≡ N * 16 → N ≤ 64 → N ≡ 4 * (N / 4) → 16 ≤ N → TailReads h a c N shift
  tail-reads p q m f s =
      record {
        h-room = omega (arith, p);
        a-room = omega (arith, q);
        c-room = omega (arith, offset-long);
        small = offset-small m;
        most = o.most;
        fours = f;
        some = s;
      }

  -- and the tail of a block, whose halves were gathered from the lines from j0 on with p places from row to row, is the stage
  pub block-joined :
      {s s' h a d₀ d : List ℤ} (src : List ℤ) (p l j0 M : ℕ) →
      p ≡ 64 / N * 16 →
      M ≡ N * 16 →
      0 < N →
      Rows s p N (λ k j. upper (input src l j0 k j)) →
      h ≡ tab M (lane_sum N s) →
      Rows s' p N (λ k j. rest (input src l j0 k j)) →
      a ≡ tab M (lane_sum N s') →
      Next d₀ d (j0 * N) (16 * N) (λ i. tail_cell shift h a c (i / N) (i % N)) →
      Blocked (stage_two_at (tm N) N l shift src) d₀ d N j0
  unfolding lane_sum
  block-joined src p l j0 M e m some r u r' u' n =
      next-ext n
      (λ i z.
      two_at N l j0 src some shift i _ _ _ (crossed-sum N p e r M m u some i z) (crossed-sum N p e r' M m u' some i z)
      (offset_at (i % N) (mod-lt i some)))
