-- Laws of positions in rows. In groups:
--   row-…    a run of positions: the part of a buffer that is lent from a
--   rows-…   rows a pitch apart
--   …-step   one row more: a turn of a loop over the rows
use Prim.Native.Nat.{ℕ, zero, suc, ◌+◌, ◌-◌, ◌*◌, ◌≤◌, ◌<◌, min, max}
use native.Mathlib.Nat.{add-zero, zero-add, add-suc, suc-add, add_comm, zero-mul, suc-mul}
use native.Mathlib.Omega.{arith}
use native.Mathlib.Decide.{dec_lt}
use mathlib.Core.Path.{◌≡◌, refl, sym, ap, ◌∙◌}
use mathlib.Core.Logic.{◌↔◌, ◌⊎◌, inl, inr, ⊎_elim, dite}
use mathlib.Core.Bool.{true, false≢true}
use mathlib.Core.List.{List, [], ◌∷◌, ◌++◌, append_assoc, append-nil}
use lib.Dec.{eqb}
use lib.ListN.{length, set, take, drop, length-drop, length-append}
use lib.Seq.{length-take-le, drop-cons, drop-drop, sets, sets-eq}
use borrow.Author.Tests.{eqb-false}
use Rattle.order.specs.Positions.{row, rows, reach, has, shared, Distinct, Ascending, Below, gather, put, change}
use Rattle.integers.proofs.Bools.{by-test, same_test, or_cases, or_left}
use Rattle.order.proofs.Positions.{has-tail, has-cases, has-append, below-append, ascending-cons, ascending-append, ascending-distinct}
use Rattle.order.proofs.Positions.{ascending-same, gather_append, put-append, length-put, shared-both, both-shared, shared-ascending, shared-none-append}

-- ---- one row
pub has-row : (a m p : ℕ) → has (row a m) p ≡ true → (a ≤ p) × (p < a + m)
has-row a zero p h = absurd (false≢true h)
has-row a (suc m) p h =
    has-cases a (row (suc a) m) p h (λ e. (omega arith, omega arith)) (λ t. let w = has-row (suc a) m p t in (omega arith, omega arith))

pub row_has : (a m p : ℕ) → a ≤ p → p < a + m → has (row a m) p ≡ true
row_has a zero p l g = absurd (omega arith)
row_has a (suc m) p l g =
    by-test (eqb a p)
    (λ t. or_left _ _ t)
    (λ t. let ne = eqb-false a p t in has-tail a (row (suc a) m) p (row_has (suc a) m p (omega arith) (omega arith)))

pub row-ascending : (a m : ℕ) → Ascending (row a m)
row-ascending a zero = tt
row-ascending a (suc m) = ascending-cons a (row (suc a) m) (λ q h. (has-row (suc a) m q h).0) (row-ascending (suc a) m)

pub row-distinct : (a m : ℕ) → Distinct (row a m)
row-distinct a m = ascending-distinct (row a m) (row-ascending a m)

pub row_below : (n a m : ℕ) → a + m ≤ n → Below n (row a m)
row_below n a zero h = tt
row_below n a (suc m) h = (omega arith, row_below n (suc a) m (omega arith))

pub length-row : (a m : ℕ) → length (row a m) ≡ m
length-row a zero = refl
length-row a (suc m) = ap suc (length-row (suc a) m)

pub row-add : (a m k : ℕ) → row a (m + k) ≡ row a m ++ row (a + m) k
row-add a zero k = rw (zero-add, add-zero)
row-add a (suc m) k = rw (suc-add m k, row-add (suc a) m k, add-suc a m, suc-add a m)

-- two rows share the run from the later start to the earlier end
pub shared-row : (a m b k : ℕ) → shared (row a m) (row b k) ≡ row (max a b) (min (a + m) (b + k) - max a b)
shared-row a m b k =
    ascending-same (shared (row a m) (row b k)) (row s n) (shared-ascending (row a m) (row b k) (row-ascending a m)) (row-ascending s n) (λ p.
    same_test _ _
    (λ t. let o = shared-both (row a m) (row b k) p t in let x = has-row a m p o.0 in let y = has-row b k p o.1 in row_has s n p (omega arith) (omega arith))
    (λ t. let x = has-row s n p t in both-shared (row a m) (row b k) p (row_has a m p (omega arith) (omega arith)) (row_has b k p (omega arith) (omega arith))))
  where
    s : ℕ
    s = max a b

    n : ℕ
    n = min (a + m) (b + k) - max a b

-- so two rows, neither empty, share nothing where one ends before the other begins, and only there
pub shared-row-none : (a m b k : ℕ) → 1 ≤ m → 1 ≤ k → (shared (row a m) (row b k) ≡ []) ↔ ((a + m ≤ b) ⊎ (b + k ≤ a))
shared-row-none a m b k u v = (
  λ e. let z = sym (length-row (max a b) (min (a + m) (b + k) - max a b)) ∙ ap length (sym (shared-row a m b k) ∙ e) in
      dite (dec_lt b (a + m)) (λ s. inr (omega arith)) (λ s. inl (omega arith)),
  λ h. let z : min (a + m) (b + k) - max a b ≡ 0 = ⊎_elim (λ q. omega arith) (λ q. omega arith) h in shared-row a m b k ∙ rw z,
)

module _ {A : Type 0} where
  put-row-sets : (b : List A) (a m : ℕ) (vs : List A) → length vs ≡ m → put b (row a m) vs ≡ sets b a vs
  put-row-sets b a zero [] l = refl
  put-row-sets b a zero (v ∷ vs) l = absurd (omega arith)
  put-row-sets b a (suc m) [] l = absurd (omega arith)
  put-row-sets b a (suc m) (v ∷ vs) l = put-row-sets (set b a v) (suc a) m vs (omega arith)

  pub put-row : (b : List A) (a m : ℕ) (vs : List A) → length vs ≡ m → a + m ≤ length b → put b (row a m) vs ≡ take a b ++ (vs ++ drop m (drop a b))
  put-row b a m vs l h = put-row-sets b a m vs l ∙ sets-eq vs b a (omega arith) ∙ rw (l, drop-drop m a b) (append_assoc (take a b) vs (drop (a + m) b))

module _ {A : Type 0} (d : A) where
  pub gather-row : (b : List A) (a m : ℕ) → a + m ≤ length b → gather d b (row a m) ≡ take m (drop a b)
  gather-row b a zero h = refl
  gather-row b a (suc m) h = rw (drop-cons b a d (omega arith), gather-row b (suc a) m (omega arith))

  -- the bridge to code: what is left when F has worked on the part that was lent to it
  pub change-row : (F : List A → List A) → ((l : List A) → length (F l) ≡ length l) → (b : List A) (a m : ℕ) → a + m ≤ length b
      → change d F (row a m) b ≡ take a b ++ (F (take m (drop a b)) ++ drop m (drop a b))
  change-row F keep b a m h =
      ap (λ (x : List A). put b (row a m) (F x)) (gather-row b a m h)
      ∙ put-row b a m (F (take m (drop a b))) (keep (take m (drop a b)) ∙ length-take-le m (drop a b) (rw length-drop (omega arith))) h

-- ---- rows a pitch apart
pub length-rows : (a w pitch h : ℕ) → length (rows a w pitch h) ≡ h * w
length-rows a w pitch zero = rw zero-mul
length-rows a w pitch (suc h) =
    length-append (row a w) (rows (a + pitch) w pitch h) ∙ rw (length-row, length-rows (a + pitch) w pitch h, suc-mul h w) (add_comm w (h * w))

-- at a pitch of the width the rows are one
pub rows-packed : (a w h : ℕ) → rows a w w h ≡ row a (h * w)
rows-packed a w zero = rw zero-mul
rows-packed a w (suc h) = rw (suc-mul h w, rows-packed (a + w) w h, add_comm (h * w) w, row-add a w (h * w))

pub reach-suc : (a w pitch h : ℕ) → reach a w pitch (suc h) ≡ a + h * pitch + w
reach-suc a w pitch h = let e : suc h - 1 ≡ h = omega arith in rw e

pub reach-packed : (a w h : ℕ) → 1 ≤ h → reach a w w h ≡ a + h * w
reach-packed a w zero o = absurd (omega arith)
reach-packed a w (suc h) o = let e = suc-mul h w in rw reach-suc (omega arith)

-- every position of the rows is at or after the first row's start
pub rows-from : (a w pitch h p : ℕ) → has (rows a w pitch h) p ≡ true → a ≤ p
rows-from a w pitch zero p t = absurd (false≢true t)
rows-from a w pitch (suc h) p t =
    ⊎_elim
    (λ s. (has-row a w p s).0)
    (λ s. let i = rows-from (a + pitch) w pitch h p s in omega arith)
    (or_cases _ _ (sym (has-append (row a w) (rows (a + pitch) w pitch h) p) ∙ t))

pub rows-ascending : (a w pitch h : ℕ) → w ≤ pitch → Ascending (rows a w pitch h)
rows-ascending a w pitch zero l = tt
rows-ascending a w pitch (suc h) l =
    ascending-append (row a w) (rows (a + pitch) w pitch h) (row-ascending a w) (rows-ascending (a + pitch) w pitch h l)
    (λ p q s t. let i = has-row a w p s in let j = rows-from (a + pitch) w pitch h q t in omega arith)

pub rows-distinct : (a w pitch h : ℕ) → w ≤ pitch → Distinct (rows a w pitch h)
rows-distinct a w pitch h l = ascending-distinct (rows a w pitch h) (rows-ascending a w pitch h l)

-- a buffer as long as the rows reach has them all
pub rows-below : (n a w pitch h : ℕ) → 1 ≤ h → reach a w pitch h ≤ n → Below n (rows a w pitch h)
rows-below n a w pitch zero o l = absurd (omega arith)
rows-below n a w pitch (suc h) o l = all h a (rw reach-suc at l)
  where
    all : (h a : ℕ) → a + h * pitch + w ≤ n → Below n (rows a w pitch (suc h))
    all zero a l = below-append n (row a w) [] (row_below n a w (omega (arith, zero-mul pitch))) tt
    all (suc h) a l =
        let e = suc-mul h pitch in
        below-append n (row a w) (rows (a + pitch) w pitch (suc h)) (row_below n a w (omega arith)) (all h (a + pitch) (omega arith))

-- ---- one row more
pub rows_snoc : (a w pitch h : ℕ) → rows a w pitch (suc h) ≡ rows a w pitch h ++ row (a + h * pitch) w
rows_snoc a w pitch zero = rw (zero-mul, add-zero) (append-nil (row a w))
rows_snoc a w pitch (suc h) =
    let e : a + pitch + h * pitch ≡ a + suc h * pitch = let m = suc-mul h pitch in omega arith in
    ap (λ l. row a w ++ l) (rows_snoc (a + pitch) w pitch h)
    ∙ rw e (sym (append_assoc (row a w) (rows (a + pitch) w pitch h) (row (a + suc h * pitch) w)))

-- one row more is written, of a list that is read from the front
pub put-rows-step : {A : Type 0} (b vs us : List A) (a w pitch h : ℕ) → length vs ≡ h * w → length us ≡ w → a + h * pitch + w ≤ length b
    → put b (rows a w pitch (suc h)) (vs ++ us) ≡ take (a + h * pitch) (put b (rows a w pitch h) vs) ++ (us ++ drop w (drop (a + h * pitch) (put b (rows a w pitch h) vs)))
put-rows-step b vs us a w pitch h ev eu l =
    ap (λ ps. put b ps (vs ++ us)) (rows_snoc a w pitch h)
    ∙ put-append b (rows a w pitch h) (row (a + h * pitch) w) vs us (ev ∙ sym (length-rows a w pitch h))
    ∙ put-row (put b (rows a w pitch h) vs) (a + h * pitch) w us eu (rw length-put l)

module _ {A : Type 0} (d : A) where
  -- one row more is read, into a list that is filled from the front
  pub gather-rows-step : (b : List A) (a w pitch h : ℕ) → a + h * pitch + w ≤ length b
      → gather d b (rows a w pitch (suc h)) ≡ gather d b (rows a w pitch h) ++ take w (drop (a + h * pitch) b)
  gather-rows-step b a w pitch h l =
      ap (gather d b) (rows_snoc a w pitch h)
      ∙ gather_append d b (rows a w pitch h) (row (a + h * pitch) w)
      ∙ ap (λ r. gather d b (rows a w pitch h) ++ r) (gather-row d b (a + h * pitch) w l)

-- one row more shares nothing
pub shared-rows-step : (ps : List ℕ) (a w pitch h : ℕ)
    → (shared ps (rows a w pitch (suc h)) ≡ []) ↔ ((shared ps (rows a w pitch h) ≡ []) × (shared ps (row (a + h * pitch) w) ≡ []))
shared-rows-step ps a w pitch h = rw rows_snoc (shared-none-append ps (rows a w pitch h) (row (a + h * pitch) w))

-- where the rows share nothing, none of them does
pub shared-rows-none : (ps : List ℕ) (a w pitch h y : ℕ) → y < h → shared ps (rows a w pitch h) ≡ [] → shared ps (row (a + y * pitch) w) ≡ []
shared-rows-none ps a w pitch zero y l e = absurd (omega arith)
shared-rows-none ps a w pitch (suc h) y l e = go (dec_lt y h) ((shared-rows-step ps a w pitch h).0 e) (shared-rows-none ps a w pitch h y)
  where
    go : Dec (y < h) → (shared ps (rows a w pitch h) ≡ []) × (shared ps (row (a + h * pitch) w) ≡ [])
        → (y < h → shared ps (rows a w pitch h) ≡ [] → shared ps (row (a + y * pitch) w) ≡ []) → shared ps (row (a + y * pitch) w) ≡ []
    go (yes i) w ih = ih i w.0
    go (no i) w ih = let e : y ≡ h = omega arith in rw e w.1
