-- `sad_bi::blocks::total` meets its contract: a sum over a packed block is one over runs of its values, and nothing was cut where no mark has more than 14
-- bits. Assumes nothing.
use Rattle.std.proofs.Common.{◌≡◌, ℕ, ◌+◌, ◌-◌, ◌*◌, ◌/◌, ◌%◌, ◌^◌, ◌<◌, ◌≤◌, List, length, get_or, ℤ, pos, sym, ap, ◌∙◌, subst, ap₂, mul-le-mul_right, mul_comm, add-mul, mul-le-mul, div-add-mod', arith}
use lib.Bits.{bit_or}
use Rattle.integers.specs.Sum.{Addition, addition_n+, sum, sum_n}
use Rattle.integers.specs.Or.{addition_or, or_n}
use Rattle.integers.proofs.Sum.{sum-ext}
use Rattle.order.specs.Positions.{reach}
use Rattle.evc.proofs.Marks.{below_all}
use Rattle.plane_tests.specs.Blocks.{TwoBlocks, cell}
use Rattle.sad_bi.specs.Marks.{low_mark_of}
use Rattle.sad_bi.specs.Totals.{apart_bi}
use Rattle.sad_bi.specs.Near.{near_bi, InRuns}
use Rattle.sad_bi.specs.Totals.{BiCounted, mark_bi}
use Rattle.sad_bi.proofs.Cut.{near-is}
use Rattle.block_rows.specs.Totals.{BlocksTotalled}
use Rattle.sad_bi.proofs.Ends.{counted-all}
use Rattle.sad_bi.proofs.Pairs.{sum_rows}
use Rattle.sad_bi.proofs.blocks.total.Goals as goal

module _ (a : List ℤ) (b : List ℕ) (s : ℕ) where
  -- over a packed block, as over its values one after another
  packed-sum :
      (m : Addition ℕ) (g : ℤ → ℕ → ℕ) (w h : ℕ) →
      sum m h (λ j. sum m w (λ i. g (cell (pos 0) a 0 w j i) (cell 0 b s w j i))) ≡ sum m (h * w) (λ k. g (get_or a k (pos 0)) (get_or b (s + k) 0))
  unfolding cell
  packed-sum m g w h =
      sum-ext m h (λ j. sum m w (λ i. g (get_or a (0 + j * w + i) (pos 0)) (get_or b (s + j * w + i) 0)))
      (λ j. sum m w (λ i. g (get_or a (j * w + i) (pos 0)) (get_or b (s + (j * w + i)) 0)))
      (λ j p. sum-ext m w (λ i. g (get_or a (0 + j * w + i) (pos 0)) (get_or b (s + j * w + i) 0)) (λ i. g (get_or a (j * w + i) (pos 0)) (get_or b (s + (j * w + i)) 0))
      (λ i q.
      let d : 0 + j * w + i ≡ j * w + i = omega arith in
      let e : s + j * w + i ≡ s + (j * w + i) = omega arith in
      ap₂ (λ (x y : ℕ). g (get_or a x (pos 0)) (get_or b y 0)) d e))
      ∙ sum_rows m w h (λ k. g (get_or a k (pos 0)) (get_or b (s + k) 0))

  -- so rows of one width tell as much as rows of another
  same_sum :
      (m : Addition ℕ) (g : ℤ → ℕ → ℕ) (w h v k : ℕ) → k * v ≡ h * w →
      sum m k (λ j. sum m v (λ i. g (cell (pos 0) a 0 v j i) (cell 0 b s v j i))) ≡ sum m h (λ j. sum m w (λ i. g (cell (pos 0) a 0 w j i) (cell 0 b s w j i)))
  same_sum m g w h v k e = packed-sum m g v k ∙ ap (λ (n : ℕ). sum m n (λ k. g (get_or a k (pos 0)) (get_or b (s + k) 0))) e ∙ sym (packed-sum m g w h)

  counted :
      (w h n count t : ℕ) {x y : ℕ} → t ≡ w → count * (n + n) ≡ h * w → BlocksTotalled (64 * 16842495) near_bi mark_bi (n + n) count (cell (pos 0) a 0 (n + n)) (cell 0 b s (n + n)) x y →
      BiCounted w h (cell (pos 0) a 0 w) (cell 0 b s t) x y
  counted w h n count t {x} {y} d e r = subst (λ (t : ℕ). BiCounted w h (cell (pos 0) a 0 w) (cell 0 b s t) x y) (sym d) (record { total = right; marks = marks; most = omega (arith, r.most) })
    where
      marks : y ≡ or_n h (λ j. or_n w (λ i. bit_or (low_mark_of (cell (pos 0) a 0 w j i)) (cell 0 b s w j i)))
      marks = r.marks ∙ same_sum addition_or (λ v q. bit_or (low_mark_of v) q) w h (n + n) count e

      right : y < 2 ^ 14 → x ≡ sum_n h (λ j. sum_n w (λ i. apart_bi (cell (pos 0) a 0 w j i) (cell 0 b s w j i)))
      right p =
          let each = below_all w h 14 (λ j i. low_mark_of (cell (pos 0) a 0 w j i)) (λ j i. cell 0 b s w j i) y marks p in
          r.total ∙ same_sum addition_n+ near_bi w h (n + n) count e
          ∙ sum-ext addition_n+ h (λ j. sum_n w (λ i. near_bi (cell (pos 0) a 0 w j i) (cell 0 b s w j i))) (λ j. sum_n w (λ i. apart_bi (cell (pos 0) a 0 w j i) (cell 0 b s w j i)))
          (λ j m. sum-ext addition_n+ w (λ i. near_bi (cell (pos 0) a 0 w j i) (cell 0 b s w j i)) (λ i. apart_bi (cell (pos 0) a 0 w j i) (cell 0 b s w j i))
          (λ i q. near-is (cell (pos 0) a 0 w j i) (cell 0 b s w j i) (each j i m q).0 (each j i m q).1))

-- the packed block's values lie in both buffers
flat : (w h : ℕ) → h * w ≤ (h - 1) * w + w
flat w h = let a : h * w ≤ (h - 1 + 1) * w = mul-le-mul_right w (omega arith) in omega (arith, add-mul (h - 1) 1 w)

size-le : {w h : ℕ} → w ≤ 64 → h ≤ 64 → w * h ≤ 4096
size-le p q = mul-le-mul p q

-- runs of n + n, which divides the size
divided : (w h d : ℕ) → w * h % d ≡ 0 → w * h / d * d ≡ h * w
divided w h d e = omega (arith, div-add-mod' (w * h) d, mul_comm w h)

in-runs : (w h n d m k s t : ℕ) → d ≡ n + n → n ≤ 256 → w * h / d ≤ 64 → t ≡ w → w * h % d ≡ 0 → TwoBlocks w h m 0 w k s t → InRuns n (w * h / d) m k s
in-runs w h n d m k s t e f g u z p =
    let c : w * h / d * (n + n) ≡ h * w = ap (λ (x : ℕ). w * h / d * x) (sym e) ∙ divided w h d z in
    let q = flat w h in
    let one = p.one in
    let two : reach s w w h ≤ k = subst (λ (x : ℕ). reach s w x h ≤ k) u p.two in
    record { small = f; few = g; one = omega arith; two = omega arith }

pub overflow_mul-size : goal.overflow_mul-size
overflow_mul-size c = let k = c.args.pair.now.inside in omega (arith, size-le k.narrow k.low)

pub runs-requires : goal.runs-requires
runs-requires c =
    let p = c.args.pair.now in
    let k = rw (c.requires.0, c.requires.1) at p.inside in
    in-runs p.w p.h 256 512 (length p.a.now) (length p.b.now) p.b_at p.b_stride (omega arith) (omega arith)
    (omega (arith, size-le k.narrow k.low)) c.if-pair.true c.if-size-eq0.true k

pub returns-then-size-eq0 : goal.returns-then-size-eq0
returns-then-size-eq0 c =
    let p = c.args.pair.now in
    rw (c.requires.0, c.requires.1) (counted p.a.now p.b.now p.b_at p.w p.h 256 (p.w * p.h / 512) p.b_stride c.if-pair.true
    (divided p.w p.h 512 c.if-size-eq0.true) c.runs.ensures)

pub runs-requires-then-size-eq0-2 : goal.runs-requires-then-size-eq0-2
runs-requires-then-size-eq0-2 c =
    let p = c.args.pair.now in
    let k = rw (c.requires.0, c.requires.1) at p.inside in
    in-runs p.w p.h 32 64 (length p.a.now) (length p.b.now) p.b_at p.b_stride (omega arith) (omega arith)
    (omega (arith, size-le k.narrow k.low)) c.if-pair.true c.if-size-eq0-2.true k

pub returns-then-size-eq0-2 : goal.returns-then-size-eq0-2
returns-then-size-eq0-2 c =
    let p = c.args.pair.now in
    rw (c.requires.0, c.requires.1) (counted p.a.now p.b.now p.b_at p.w p.h 32 (p.w * p.h / 64) p.b_stride c.if-pair.true
    (divided p.w p.h 64 c.if-size-eq0-2.true) c.runs-then-size-eq0-2.ensures)

pub returns : goal.returns
returns c = counted-all _ _ _ _ c.compare_blocks.ensures
