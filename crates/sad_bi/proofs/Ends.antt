-- What a call counted, of blocks that are read alike; and how it ends. Assumes nothing.
use Rattle.std.proofs.Common.{◌≡◌, ℕ, ◌+◌, ◌-◌, ◌*◌, ◌/◌, ◌^◌, ◌≤◌, false, leb, List, [], ◌∷◌, get_or, ℤ, pos, refl, ap, ◌∙◌, le_trans, arith, pow_mono}
use Rattle.integers.specs.Sum.{addition_n+, sum_n}
use Rattle.integers.specs.Or.{addition_or}
use Rattle.evc.specs.declared.Refusal.TheVariants.{Sample}
use Rattle.evc.specs.Tests.{◌when◌, first, reply}
use Rattle.evc.specs.Planes.{Block, is_too_low, bi_packed}
use Rattle.evc.specs.Differences.{difference, sad_total}
use Rattle.evc.specs.Calls.{depth_test}
use Rattle.plane_tests.specs.Blocks.{rest, cell}
use Rattle.sad_answer.specs.In32.{in32}
use Rattle.sad_bi.specs.Marks.{low_mark_of}
use Rattle.sad_answer.proofs.Answered.{answered}
use Rattle.sad_bi.proofs.LowMark.{low-marked}
use Rattle.plane_tests.proofs.Replies.{Alike}
use Rattle.block_rows.specs.Edges.{Stands}
use Rattle.block_rows.specs.Totals.{BlocksTotalled}
use Rattle.block_rows.proofs.Cells.{SameBlock, sums-alike}
use Rattle.block_rows.proofs.Marked.{samples, marked-value}
use Rattle.sad_bi.specs.Totals.{BiCounted, apart_bi, mark_bi}

-- a block of values, by what row j, column i reads
abbrev pub values : (ℕ → ℕ → ℤ) → Block
values A = record { area = false; reads = A; bad = is_too_low }

pub bi-alike : (l : List ℤ) (w h : ℕ) → Alike w h (values (cell (pos 0) l 0 w)) (bi_packed l w h)
unfolding cell
bi-alike l w h = record { reads = λ j i p q. let e : 0 + j * w + i ≡ j * w + i = omega arith in ap (λ (k : ℕ). get_or l k (pos 0)) e; bad = λ v. refl }

-- where nothing was cut
pub counted-all :
    (w h : ℕ) (A : ℕ → ℕ → ℤ) (B : ℕ → ℕ → ℕ) {sum any : ℕ} → BlocksTotalled (64 * (64 * 98303)) apart_bi mark_bi w h A B sum any → BiCounted w h A B sum any
counted-all w h A B t = record { total = λ k. t.total; marks = t.marks; most = omega (arith, t.most) }

-- blocks that stand in their buffers, of which the second is one at the edges
pub standing-counted :
    {w h s t w' h' s' t' x y : ℕ} {a a' : List ℤ} {F G : ℕ → ℕ → ℕ} → Stands w h a s t F w' h' a' s' t' G →
    BiCounted w h (cell (pos 0) a s t) F x y → BiCounted w' h' (cell (pos 0) a' s' t') G x y
standing-counted {s = s} {t} {w'} {h'} {s'} {t'} {a = a} {a'} {F} {G} k r =
    let p : SameBlock (cell (pos 0) a s t) (cell (pos 0) a' s' t') = record { at = λ j i. rw (k.values, k.start, k.stride) } in
    let q : SameBlock F G = record { at = k.reads } in
    let c = rw (k.width, k.height) at r in
    record {
      total = λ m. c.total m ∙ sums-alike addition_n+ apart_bi p q w' h';
      marks = c.marks ∙ sums-alike addition_or mark_bi p q w' h';
      most = c.most;
    }

module _ (w h depth : ℕ) (A : ℕ → ℕ → ℤ) (B : ℕ → ℕ → ℕ) {sum any : ℕ} where
  pub bi-totalled :
      (8 ≤ depth) × (depth ≤ 14) → BiCounted w h A B sum any →
      reply (first (depth_test depth ∷ (Sample when leb (2 ^ depth) any) ∷ [])) (in32 (sum / 2 ^ (depth - 8)))
      ≡ rest w h (values A) (samples depth B) (sad_total w h (difference (values A) (samples depth B)) / 2 ^ (depth - 8))
  unfolding sad_total apart_bi
  bi-totalled d t =
      let k : 2 ^ depth ≤ 2 ^ 14 = pow_mono d.1 in
      answered sum any depth d (omega (arith, t.most))
      ∙ marked-value w h depth (values A) (samples depth B) (λ j i. low_mark_of (A j i)) B (λ j i. low-marked depth (A j i) d.1) (λ j i. refl) t.marks
      (sum / 2 ^ (depth - 8)) (sum_n h (λ j. sum_n w (λ i. apart_bi (A j i) (B j i))) / 2 ^ (depth - 8))
      (λ m. ap (λ (n : ℕ). n / 2 ^ (depth - 8)) (t.total (le_trans m k)))
