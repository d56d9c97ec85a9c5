-- A loop that writes a packed block row by row, each row as a part lent on: after j rows of w the list is `written (j · w)`. Assumes nothing.
use mathlib.Core.Path.{◌≡◌, sym, ap, ap₂, ◌∙◌}
use mathlib.Core.List.{List, ◌∷◌, ◌++◌, append_assoc}
use Prim.Native.Nat.{ℕ, zero, suc, ◌+◌, ◌*◌, ◌-◌, ◌≤◌, ◌<◌}
use native.Mathlib.Nat.{mul-le-mul_right, zero-add, suc-add, add-mul, le_antisymm}
use native.Mathlib.Omega.{arith}
use lib.ListN.{length, take, drop, length-take, length-drop}
use lib.Seq.{drop-drop, take_at, drop_at}
use Rattle.integers.specs.Lists.{tab, written}
use Rattle.integers.proofs.Written.{tab-length, tab-ext, written_none, written-length}

-- two ranges, one after the other
pub tab-append : {A : Type 0} (n w : ℕ) (g : ℕ → A) → tab n g ++ tab w (λ i. g (n + i)) ≡ tab (n + w) g
unfolding tab
tab-append {A} zero w g = tab-ext w (λ i. g (0 + i)) g (λ i p. ap g (zero-add i)) ∙ ap (λ (k : ℕ). tab k g) (sym (zero-add w))
tab-append {A} (suc n) w g =
    ap (λ (l : List A). g zero ∷ (tab n (λ k. g (suc k)) ++ l)) (tab-ext w (λ i. g (suc n + i)) (λ i. g (suc (n + i))) (λ i p. ap g (suc-add n i)))
    ∙ ap (λ (l : List A). g zero ∷ l) (tab-append n w (λ k. g (suc k))) ∙ ap (λ (k : ℕ). tab k g) (sym (suc-add n w))

-- a part put back, after the first n places were written: k is the part's length, as the borrow checker has it
written-part :
    {A : Type 0} (n w k : ℕ) (g : ℕ → A) (l cur row : List A) → k ≡ w → cur ≡ written n g l → row ≡ tab w (λ i. g (n + i)) →
    take n cur ++ (row ++ drop k (drop n cur)) ≡ written (n + w) g l
unfolding written
written-part {A} n w k g l cur row d e f =
    let p : take n cur ≡ tab n g = ap (take n) e ∙ take_at (tab n g) (drop n l) n (tab-length n g) in
    let q : drop k (drop n cur) ≡ drop (n + w) l =
    ap (λ (m : ℕ). drop m (drop n cur)) d ∙ ap (λ (r : List A). drop w (drop n r)) e ∙ ap (drop w) (drop_at (tab n g) (drop n l) n (tab-length n g))
    ∙ drop-drop w n l
    in
    ap₂ (λ (s t : List A). s ++ (row ++ t)) p q ∙ ap (λ (r : List A). tab n g ++ (r ++ drop (n + w) l)) f
    ∙ sym (append_assoc (tab n g) (tab w (λ i. g (n + i))) (drop (n + w) l)) ∙ ap (λ (s : List A). s ++ drop (n + w) l) (tab-append n w g)

-- ---- the loop
pub record Wrote {A : Type 0} (w h : ℕ) (g : ℕ → A) (l cur : List A) (j : ℕ) : Type 0 where
  pub most : j ≤ h
  pub room : h * w ≤ length l
  pub is : cur ≡ written (j * w) g l

rows-le : (j h w n : ℕ) → j ≤ h → h * w ≤ n → j * w ≤ n
rows-le j h w n p r = let q : j * w ≤ h * w = mul-le-mul_right w p in omega arith

next : (j w : ℕ) → (j + 1) * w ≡ j * w + w
next j w = let e = add-mul j 1 w in omega arith

module _ {A : Type 0} {w h : ℕ} {g : ℕ → A} {l : List A} where
  pub wrote-start : h * w ≤ length l → Wrote w h g l l 0
  wrote-start r = let e : 0 ≡ 0 * w = omega arith in record { most = omega arith; room = r; is = written_none g l ∙ ap (λ (n : ℕ). written n g l) e }

  pub wrote-long : {cur : List A} {j : ℕ} → Wrote w h g l cur j → length cur ≡ length l
  wrote-long {cur} {j} r = ap length r.is ∙ written-length (j * w) g l (rows-le j h w (length l) r.most r.room)

  -- the next row has room
  pub row_room : {cur : List A} {j : ℕ} → Wrote w h g l cur j → j < h → j * w + w ≤ length cur
  row_room {cur} {j} r p = let q : (j + 1) * w ≤ length l = rows-le (j + 1) h w (length l) (omega arith) r.room in omega (arith, next j w, wrote-long r)

  -- and is as long as the rows are wide
  pub row-long : {cur : List A} {j : ℕ} → Wrote w h g l cur j → j < h → length (take (j * w + w - j * w) (drop (j * w) cur)) ≡ w
  row-long {cur} {j} r p = let q = row_room r p in simp (length-take, length-drop) (omega arith)

  pub wrote-row :
      {cur : List A} {j : ℕ} → Wrote w h g l cur j → j < h → (row : List A) → row ≡ tab w (λ i. g (j * w + i)) →
      Wrote w h g l (take (j * w) cur ++ (row ++ drop (j * w + w - j * w) (drop (j * w) cur))) (j + 1)
  wrote-row {cur} {j} r p row e = record {
    most = omega arith;
    room = r.room;
    is = written-part (j * w) w (j * w + w - j * w) g l cur row (omega arith) r.is e ∙ ap (λ (n : ℕ). written n g l) (sym (next j w));
  }

  pub wrote-end : {cur : List A} {j : ℕ} → Wrote w h g l cur j → h ≤ j → cur ≡ written (h * w) g l
  wrote-end {cur} {j} r p = r.is ∙ ap (λ (n : ℕ). written (n * w) g l) (le_antisymm r.most p)
