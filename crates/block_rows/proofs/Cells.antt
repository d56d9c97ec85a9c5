-- Rows of a block: what their values are, and that blocks whose rows are read alike add up to the same. Assumes nothing.
use mathlib.Core.Path.{◌≡◌, refl, sym, ap, ap₂, ◌∙◌, subst, subst₂}
use mathlib.Core.List.{List}
use Prim.Native.Nat.{ℕ, ◌+◌, ◌*◌, ◌-◌, ◌≤◌, ◌<◌}
use native.Mathlib.Omega.{arith}
use lib.ListN.{length, get_or, take, drop, length-take, length-drop}
use lib.Seq.{get_or-take, get_or-drop}
use Rattle.integers.specs.Sum.{Addition, addition_n+, sum, sum_n}
use Rattle.integers.specs.Or.{addition_or, or_n}
use Rattle.integers.proofs.Sum.{sum-ext}
use Rattle.plane_tests.specs.Blocks.{TwoBlocks, cell}
use Rattle.plane_tests.proofs.Planes.{in_one, in_two}
use Rattle.block_rows.specs.Rows.{row_of}
use Rattle.block_rows.specs.Totals.{TwoRows, Totalled, value_at, RowsTotalled, BlocksTotalled}

module _ {A : Type 0} (l : List A) (s t j w : ℕ) where
  pub row-length : s + j * t + w ≤ length l → length (row_of l s t j w) ≡ w
  unfolding row_of
  row-length h = simp (length-take, length-drop) (omega arith)

  -- the part that code takes, from where the row starts to where it ends
  pub row-part : take (s + j * t + w - (s + j * t)) (drop (s + j * t) l) ≡ row_of l s t j w
  unfolding row_of
  row-part = let e : s + j * t + w - (s + j * t) ≡ w = omega arith in ap (λ (n : ℕ). take n (drop (s + j * t) l)) e

  pub row_at : (d : A) (i : ℕ) → i < w → get_or (row_of l s t j w) i d ≡ cell d l s t j i
  unfolding row_of cell
  row_at d i h = rw (get_or-take, get_or-drop)

  pub part_length : s + j * t + w ≤ length l → length (take (s + j * t + w - (s + j * t)) (drop (s + j * t) l)) ≡ w
  part_length h = ap length row-part ∙ row-length h

  pub part_at : (d : A) (i : ℕ) → i < w → get_or (take (s + j * t + w - (s + j * t)) (drop (s + j * t) l)) i d ≡ cell d l s t j i
  part_at d i h = ap (λ (r : List A). get_or r i d) row-part ∙ row_at d i h

-- of packed rows
pub packed-part : {A : Type 0} (l : List A) (j w : ℕ) → take (j * w + w - j * w) (drop (j * w) l) ≡ row_of l 0 w j w
unfolding row_of
packed-part l j w =
    let e : j * w + w - j * w ≡ w = omega arith in
    let f : j * w ≡ 0 + j * w = omega arith in
    ap₂ (λ (n m : ℕ). take n (drop m l)) e f

-- sides that are named twice
pub sides-alike :
    {m s t n s' t' w h w' h' : ℕ} → w ≡ w' → h ≡ h' → TwoBlocks w' h' m s t n s' t' → TwoBlocks w h m s t n s' t'
sides-alike {m} {s} {t} {n} {s'} {t'} d e k = subst₂ (λ w h. TwoBlocks w h m s t n s' t') (sym d) (sym e) k

-- two such parts are rows of as many values as the blocks are wide
pub two-parts :
    {A B : Type 0} (a : List A) (b : List B) {w h s t s' t' j : ℕ} → TwoBlocks w h (length a) s t (length b) s' t' → j < h →
    TwoRows w (take (s + j * t + w - (s + j * t)) (drop (s + j * t) a)) (take (s' + j * t' + w - (s' + j * t')) (drop (s' + j * t') b))
two-parts a b {w} {h} {s} {t} {s'} {t'} {j} k n =
    record { one = part_length a s t j w (in_one k n); two = part_length b s' t' j w (in_two k n); small = k.narrow }

-- ---- rows that are read alike
pub record Same {A : Type 0} (w : ℕ) (F G : ℕ → A) : Type 0 where
  pub at : (i : ℕ) → i < w → F i ≡ G i

pub same : {A : Type 0} {w : ℕ} (F : ℕ → A) → Same w F F
same F = record { at = λ i p. refl }

pub part_same :
    {A : Type 0} (d : A) (l : List A) (s t j w : ℕ) → Same w (value_at d (take (s + j * t + w - (s + j * t)) (drop (s + j * t) l))) (cell d l s t j)
part_same d l s t j w = record { at = part_at l s t j w d }

-- add up to the same
pub rows_alike :
    {A B : Type 0} (f g : A → B → ℕ) {b w x y : ℕ} {F F' : ℕ → A} {G G' : ℕ → B} → Same w F F' → Same w G G' → RowsTotalled b f g w F G x y →
    RowsTotalled b f g w F' G' x y
rows_alike f g {w = w} {F = F} {F'} {G} {G'} p q t = record {
  total = t.total ∙ sum-ext addition_n+ w (λ i. f (F i) (G i)) (λ i. f (F' i) (G' i)) (λ i n. ap₂ f (p.at i n) (q.at i n));
  marks = t.marks ∙ sum-ext addition_or w (λ i. g (F i) (G i)) (λ i. g (F' i) (G' i)) (λ i n. ap₂ g (p.at i n) (q.at i n));
  most = t.most;
}

-- rows p and q that were taken from two blocks, said of the blocks
pub rows-totalled :
    {A B : Type 0} (f g : A → B → ℕ) (d : A) (d' : B) (a : List A) (b : List B) {w h s t s' t' j c x y : ℕ} {p : List A} {q : List B} →
    TwoBlocks w h (length a) s t (length b) s' t' → j < h → p ≡ row_of a s t j w → q ≡ row_of b s' t' j w →
    RowsTotalled c f g (length p) (value_at d p) (value_at d' q) x y → RowsTotalled c f g w (cell d a s t j) (cell d' b s' t' j) x y
rows-totalled f g d d' a b {w} {h} {s} {t} {s'} {t'} {j} {c} {x} {y} {p} {q} k n m o r =
    rows_alike f g (record { at = λ i l. ap (λ v. get_or v i d) m ∙ row_at a s t j w d i l })
    (record { at = λ i l. ap (λ v. get_or v i d') o ∙ row_at b s' t' j w d' i l })
    (subst (λ (v : ℕ). RowsTotalled c f g v (value_at d p) (value_at d' q) x y) (ap length m ∙ row-length a s t j w (in_one k n)) r)

-- ---- and so do blocks
pub record SameBlock {A : Type 0} (F G : ℕ → ℕ → A) : Type 0 where
  pub at : (j i : ℕ) → F j i ≡ G j i

pub same_block : {A : Type 0} (F : ℕ → ℕ → A) → SameBlock F F
same_block F = record { at = λ j i. refl }

module _ {A B : Type 0} (m : Addition ℕ) (f : A → B → ℕ) {F F' : ℕ → ℕ → A} {G G' : ℕ → ℕ → B} (p : SameBlock F F') (q : SameBlock G G') where
  pub sums-alike : (w h : ℕ) → sum m h (λ j. sum m w (λ i. f (F j i) (G j i))) ≡ sum m h (λ j. sum m w (λ i. f (F' j i) (G' j i)))
  sums-alike w h =
      sum-ext m h (λ j. sum m w (λ i. f (F j i) (G j i))) (λ j. sum m w (λ i. f (F' j i) (G' j i)))
      (λ j k. sum-ext m w (λ i. f (F j i) (G j i)) (λ i. f (F' j i) (G' j i)) (λ i n. ap₂ f (p.at j i) (q.at j i)))

pub blocks-alike :
    {A B : Type 0} (f g : A → B → ℕ) (w : ℕ) {b h x y : ℕ} {F F' : ℕ → ℕ → A} {G G' : ℕ → ℕ → B} → SameBlock F F' → SameBlock G G' →
    BlocksTotalled b f g w h F G x y → BlocksTotalled b f g w h F' G' x y
blocks-alike f g w {h = h} p q t =
    record { total = t.total ∙ sums-alike addition_n+ f p q w h; marks = t.marks ∙ sums-alike addition_or g p q w h; most = t.most }

-- ---- sides that literals name
-- f gives what is added, g what is ORed
abbrev Sized : (f g : ℕ → ℕ → ℕ) (b x y w h : ℕ) → Type 0
Sized f g b x y w h = Totalled b h (λ j. sum_n w (f j)) (λ j. or_n w (g j)) x y

pub blocks_at : (f g : ℕ → ℕ → ℕ) {b h x y : ℕ} (w k : ℕ) → w ≡ k → Sized f g b x y k h → Sized f g b x y w h
blocks_at f g {b} {h} {x} {y} w k e t = subst (λ (n : ℕ). Sized f g b x y n h) (sym e) t

pub blocks-four : (f g : ℕ → ℕ → ℕ) {b x y : ℕ} (w h : ℕ) → w ≡ 4 → h ≡ 4 → Sized f g b x y 4 4 → Sized f g b x y w h
blocks-four f g {b} {x} {y} w h d e t = subst₂ (Sized f g b x y) (sym d) (sym e) t
