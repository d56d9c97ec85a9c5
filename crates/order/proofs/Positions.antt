-- Laws of positions, any list of them. In groups:
--   has-…, below-…   which positions a list has
--   ascending-…      lists in ascending order
--   gather-…, put-…  reading the samples at the positions, and writing them
--   shared-…         what two lists share
-- Rows of positions have a file of their own.
use Prim.Native.Nat.{ℕ, suc, ◌<◌}
use native.Mathlib.Omega.{arith}
use mathlib.Core.Path.{◌≡◌, refl, sym, ap, subst, ◌∙◌}
use mathlib.Core.Logic.{◌↔◌, ⊎_elim}
use mathlib.Core.Bool.{Bool, true, false, cond, ◌&&◌, ◌||◌, or_assoc, and-false, false≢true}
use mathlib.Core.List.{List, [], ◌∷◌, ◌++◌}
use lib.Dec.{eqb}
use lib.ListN.{length, get_or, set, length-set}
use lib.Seq.{get_or-set_same, get_or-set_other}
use borrow.Author.Tests.{eq-eqb, eqb-true, eqb-false}
use Rattle.order.specs.Positions.{has, shared, Distinct, Ascending, Below, gather, put}
use Rattle.integers.proofs.Bools.{by-test, not-both, never_true, same_test, or_cases, or-neither, or_left, or_right, and_both}

-- ---- which positions a list has
pub has-head : (p : ℕ) (ps : List ℕ) → has (p ∷ ps) p ≡ true
has-head p ps = or_left _ _ (eq-eqb p p refl)

pub has-tail : (q : ℕ) (ps : List ℕ) (p : ℕ) → has ps p ≡ true → has (q ∷ ps) p ≡ true
has-tail q ps p h = or_right (eqb q p) _ h

pub has-cases : {C : Type 0} (q : ℕ) (ps : List ℕ) (p : ℕ) → has (q ∷ ps) p ≡ true → (q ≡ p → C) → (has ps p ≡ true → C) → C
has-cases q ps p h f g = ⊎_elim (λ t. f (eqb-true q p t)) g (or_cases _ _ h)

pub has-append : (xs ys : List ℕ) (p : ℕ) → has (xs ++ ys) p ≡ (has xs p || has ys p)
has-append [] ys p = refl
has-append (x ∷ xs) ys p = rw (has-append xs ys p) (sym (or_assoc (eqb x p) (has xs p) (has ys p)))

pub below-append : (n : ℕ) (xs ys : List ℕ) → Below n xs → Below n ys → Below n (xs ++ ys)
below-append n [] ys u v = v
below-append n (x ∷ xs) ys u v = (u.0, below-append n xs ys u.1 v)

-- ---- ascending lists
pub ascending-tail : (p : ℕ) (ps : List ℕ) → Ascending (p ∷ ps) → Ascending ps
ascending-tail p [] u = tt
ascending-tail p (q ∷ ps) u = u.1

-- the first is below all that follow
pub ascending-head : (p : ℕ) (ps : List ℕ) → Ascending (p ∷ ps) → (q : ℕ) → has ps q ≡ true → p < q
ascending-head p [] u q h = absurd (false≢true h)
ascending-head p (r ∷ ps) u q h =
    let l : p < r = u.0 in
    has-cases r ps q h (λ e. omega arith) (λ t. let m : r < q = ascending-head r ps u.1 q t in omega arith)

pub ascending-cons : (p : ℕ) (ps : List ℕ) → ((q : ℕ) → has ps q ≡ true → p < q) → Ascending ps → Ascending (p ∷ ps)
ascending-cons p [] h u = tt
ascending-cons p (q ∷ ps) h u = (h q (has-head q ps), u)

pub ascending-append : (xs ys : List ℕ) → Ascending xs → Ascending ys → ((p q : ℕ) → has xs p ≡ true → has ys q ≡ true → p < q) → Ascending (xs ++ ys)
ascending-append [] ys u v h = v
ascending-append (x ∷ xs) ys u v h =
    ascending-cons x (xs ++ ys)
    (λ q t. ⊎_elim (ascending-head x xs u q) (h x q (has-head x xs)) (or_cases _ _ (sym (has-append xs ys q) ∙ t)))
    (ascending-append xs ys (ascending-tail x xs u) v (λ p q s. h p q (has-tail x xs p s)))

pub ascending-distinct : (ps : List ℕ) → Ascending ps → Distinct ps
ascending-distinct [] u = tt
ascending-distinct (p ∷ ps) u = (
  never_true _ (λ t. let l : p < p = ascending-head p ps u p t in omega arith),
  ascending-distinct ps (ascending-tail p ps u),
)

-- ascending lists that have the same positions are the same
pub ascending-same : (ps qs : List ℕ) → Ascending ps → Ascending qs → ((p : ℕ) → has ps p ≡ has qs p) → ps ≡ qs
ascending-same [] [] u v h = refl
ascending-same [] (q ∷ qs) u v h = absurd (not-both (has-head q qs) (sym (h q)))
ascending-same (p ∷ ps) [] u v h = absurd (not-both (has-head p ps) (h p))
ascending-same (p ∷ ps) (q ∷ qs) u v h = rw (head, ascending-same ps qs (ascending-tail p ps u) (ascending-tail q qs v) tail)
  where
    head : p ≡ q
    head =
        has-cases q qs p (sym (h p) ∙ has-head p ps)
        sym
        (λ s. has-cases p ps q (h q ∙ has-head q qs) (λ e. e) (λ t.
        let i = ascending-head q qs v p s in let j = ascending-head p ps u q t in absurd (omega arith)))

    tail : (r : ℕ) → has ps r ≡ has qs r
    tail r =
        same_test _ _
        (λ t. has-cases q qs r (sym (h r) ∙ has-tail p ps r t) (λ e. let l = ascending-head p ps u r t in absurd (omega (arith, head))) (λ s. s))
        (λ t. has-cases p ps r (h r ∙ has-tail q qs r t) (λ e. let l = ascending-head q qs v r t in absurd (omega (arith, head))) (λ s. s))

-- ---- reading and writing at the positions
module _ {A : Type 0} where
  pub put-append : (b : List A) (ps qs : List ℕ) (vs us : List A) → length vs ≡ length ps → put b (ps ++ qs) (vs ++ us) ≡ put (put b ps vs) qs us
  put-append b [] qs [] us e = refl
  put-append b [] qs (v ∷ vs) us e = absurd (omega arith)
  put-append b (p ∷ ps) qs [] us e = absurd (omega arith)
  put-append b (p ∷ ps) qs (v ∷ vs) us e = put-append (set b p v) ps qs vs us (omega arith)

  pub length-put : (b : List A) (ps : List ℕ) (vs : List A) → length (put b ps vs) ≡ length b
  length-put b [] vs = refl
  length-put b (p ∷ ps) [] = refl
  length-put b (p ∷ ps) (v ∷ vs) = length-put (set b p v) ps vs ∙ length-set b p v

module _ {A : Type 0} (d : A) where
  pub length-gather : (b : List A) (ps : List ℕ) → length (gather d b ps) ≡ length ps
  length-gather b [] = refl
  length-gather b (p ∷ ps) = ap suc (length-gather b ps)

  pub gather_append : (b : List A) (ps qs : List ℕ) → gather d b (ps ++ qs) ≡ gather d b ps ++ gather d b qs
  gather_append b [] qs = refl
  gather_append b (p ∷ ps) qs = ap (λ l. get_or b p d ∷ l) (gather_append b ps qs)

  -- two buffers hold the same at the positions: position by position, and all at once
  pub gather-agree : (b c : List A) (ps : List ℕ) → ((p : ℕ) → has ps p ≡ true → get_or b p d ≡ get_or c p d) → gather d b ps ≡ gather d c ps
  gather-agree b c [] h = refl
  gather-agree b c (q ∷ ps) h = rw (h q (has-head q ps), gather-agree b c ps (λ p t. h p (has-tail q ps p t)))

  pub gather-at : (b c : List A) (ps : List ℕ) → gather d b ps ≡ gather d c ps → (p : ℕ) → has ps p ≡ true → get_or b p d ≡ get_or c p d
  gather-at b c [] e p h = absurd (false≢true h)
  gather-at b c (q ∷ ps) e p h =
      has-cases q ps p h
      (λ s. subst (λ (x : ℕ). get_or b x d ≡ get_or c x d) s (cc))
      (gather-at b c ps (cc) p)

  -- elsewhere nothing changes
  pub put-outside : (b : List A) (ps : List ℕ) (vs : List A) (p : ℕ) → has ps p ≡ false → get_or (put b ps vs) p d ≡ get_or b p d
  put-outside b [] vs p h = refl
  put-outside b (q ∷ ps) [] p h = refl
  put-outside b (q ∷ ps) (v ∷ vs) p h =
      let w = or-neither _ _ h in
      put-outside (set b q v) ps vs p w.1 ∙ get_or-set_other b q p v d (λ e. eqb-false q p w.0 (sym e))

  -- what was put is there
  pub gather-put : (b : List A) (ps : List ℕ) (vs : List A) → Distinct ps → Below (length b) ps → length vs ≡ length ps → gather d (put b ps vs) ps ≡ vs
  gather-put b [] [] u w l = refl
  gather-put b [] (v ∷ vs) u w l = absurd (omega arith)
  gather-put b (p ∷ ps) [] u w l = absurd (omega arith)
  gather-put b (p ∷ ps) (v ∷ vs) u w l =
      rw (put-outside (set b p v) ps vs p u.0, get_or-set_same b p v d w.0, gather-put (set b p v) ps vs u.1 (rw length-set w.1) (omega arith))

-- ---- what two lists share
pub shared_has : (ps qs : List ℕ) (p : ℕ) → has (shared ps qs) p ≡ (has ps p && has qs p)
shared_has [] qs p = refl
shared_has (q ∷ ps) qs p = go (has qs q) refl (shared_has ps qs p)
  where
    here : (t : Bool) → has qs q ≡ t → eqb q p ≡ true → has qs p ≡ t
    here t e s = ap (has qs) (sym (eqb-true q p s)) ∙ e

    go : (t : Bool) → has qs q ≡ t → has (shared ps qs) p ≡ (has ps p && has qs p)
        → has (cond t (q ∷ shared ps qs) (shared ps qs)) p ≡ ((eqb q p || has ps p) && has qs p)
    go true e i = by-test (eqb q p) (λ s. rw (s, here true e s)) (λ s. rw (s, i))
    go false e i = by-test (eqb q p) (λ s. rw (i, s, here false e s) (and-false (has ps p))) (λ s. rw (s, i))

-- what is shared is in both, and what is in both is shared
pub shared-both : (ps qs : List ℕ) (p : ℕ) → has (shared ps qs) p ≡ true → (has ps p ≡ true) × (has qs p ≡ true)
shared-both ps qs p h = and_both _ _ (sym (shared_has ps qs p) ∙ h)

pub both-shared : (ps qs : List ℕ) (p : ℕ) → has ps p ≡ true → has qs p ≡ true → has (shared ps qs) p ≡ true
both-shared ps qs p h g = shared_has ps qs p ∙ rw (h, g)

pub shared-ascending : (ps qs : List ℕ) → Ascending ps → Ascending (shared ps qs)
shared-ascending [] qs u = tt
shared-ascending (p ∷ ps) qs u = go (has qs p) (shared-ascending ps qs (ascending-tail p ps u))
  where
    go : (t : Bool) → Ascending (shared ps qs) → Ascending (cond t (p ∷ shared ps qs) (shared ps qs))
    go true v = ascending-cons p (shared ps qs) (λ q h. ascending-head p ps u q (shared-both ps qs q h).0) v
    go false v = v

pub has-none : (ps : List ℕ) → ((p : ℕ) → has ps p ≡ true → ⊥) → ps ≡ []
has-none [] h = refl
has-none (p ∷ ps) h = absurd (h p (has-head p ps))

-- nothing is shared where no position is in both
pub shared-none : (ps qs : List ℕ) → (shared ps qs ≡ []) ↔ ((p : ℕ) → has ps p ≡ true → has qs p ≡ true → ⊥)
shared-none ps qs = (
  λ e p h g. not-both (both-shared ps qs p h g) (ap (λ l. has l p) e),
  λ h. has-none (shared ps qs) (λ p t. let w = shared-both ps qs p t in h p w.0 w.1),
)

pub shared-none-append : (ps qs rs : List ℕ) → (shared ps (qs ++ rs) ≡ []) ↔ ((shared ps qs ≡ []) × (shared ps rs ≡ []))
shared-none-append ps qs rs = (
  λ e. (
    (shared-none ps qs).1 (λ p h g. (shared-none ps (qs ++ rs)).0 e p h (has-append qs rs p ∙ or_left _ _ g)),
    (shared-none ps rs).1 (λ p h g. (shared-none ps (qs ++ rs)).0 e p h (has-append qs rs p ∙ or_right (has qs p) _ g)),
  ),
  λ e. (shared-none ps (qs ++ rs)).1 (λ p h g.
      ⊎_elim ((shared-none ps qs).0 e.0 p h) ((shared-none ps rs).0 e.1 p h) (or_cases _ _ (sym (has-append qs rs p) ∙ g))),
)
