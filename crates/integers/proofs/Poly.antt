-- Identities of ℤ by reflection, of expressions with any number of variables: `ring x a b tt` is val x a ≡ val x b, where the test passes
-- that the normal form of a − b has no term left; antt computes it. A normal form is a list of terms, each a number and the list of its
-- variables. What went through a local (`loc`) counts as what it is; a shift has no normal form, and the test refuses it.
-- First the terms and what each operation does to them, then `ring`, then a list of identities (`rings`) and sums. Assumes nothing.
use mathlib.Core.Path.{◌≡◌, refl, sym, ◌∙◌, ap, ap₂}
use mathlib.Core.Bool.{Bool, true, false}
use mathlib.Core.List.{List, [], ◌∷◌, map}
use Prim.Native.Nat.{ℕ, zero, suc}
use lib.Dec.{T, eqb, eqb→eq, ltb}
use lib.ListN.{length}
use lib.IntN.{ℤ, pos, neg_ℤ, ◌+ℤ◌, ◌*ℤ◌, +ℤ_idl, +ℤ_idr, +ℤ_assoc, +ℤ_comm, -ℤ-+ℤ_cancel, zero-*ℤ, *ℤ-zero, *ℤ_comm, neg_ℤ-+ℤ}
use Rattle.integers.specs.Lists.{tab}
use Rattle.integers.specs.Sum.{sum, sum_z}
use Rattle.integers.proofs.Ring.{*ℤ-distr, *ℤ-distl, neg-*ℤ, *ℤ-assoc, one-*ℤ}
use Rattle.integers.proofs.Every.{both, both_left, both_right, eq_z, eq_z→eq}
use Rattle.integers.proofs.Expr.{Ex, var, lit, add, sub, mul, neg, shr, loc, val}

-- ---- monomials: the variables, with repeats, in order

abbrev mono : (ℕ → ℤ) → List ℕ → ℤ
mono x [] = pos 1
mono x (i ∷ m) = x i *ℤ mono x m

abbrev pick : Bool → List ℕ → List ℕ → List ℕ
pick true a b = a
pick false a b = b

abbrev into : ℕ → List ℕ → List ℕ
into i [] = i ∷ []
into i (j ∷ m) = pick (ltb j i) (j ∷ into i m) (i ∷ j ∷ m)

abbrev merge : List ℕ → List ℕ → List ℕ
merge [] b = b
merge (i ∷ a) b = into i (merge a b)

swap : (a b c : ℤ) → a *ℤ (b *ℤ c) ≡ b *ℤ (a *ℤ c)
swap a b c = sym (*ℤ-assoc a b c) ∙ ap (λ (z : ℤ). z *ℤ c) (*ℤ_comm a b) ∙ *ℤ-assoc b a c

pick-mono : (x : ℕ → ℤ) (t : Bool) (a b : List ℕ) (z : ℤ) → mono x a ≡ z → mono x b ≡ z → mono x (pick t a b) ≡ z
pick-mono x true a b z p q = p
pick-mono x false a b z p q = q

into-mono : (x : ℕ → ℤ) (i : ℕ) (m : List ℕ) → mono x (into i m) ≡ x i *ℤ mono x m
into-mono x i [] = refl
into-mono x i (j ∷ m) =
    pick-mono x (ltb j i) (j ∷ into i m) (i ∷ j ∷ m) (x i *ℤ (x j *ℤ mono x m))
    (ap (λ (z : ℤ). x j *ℤ z) (into-mono x i m) ∙ swap (x j) (x i) (mono x m)) refl

merge-mono : (x : ℕ → ℤ) (a b : List ℕ) → mono x (merge a b) ≡ mono x a *ℤ mono x b
merge-mono x [] b = sym (one-*ℤ (mono x b))
merge-mono x (i ∷ a) b = into-mono x i (merge a b) ∙ ap (λ (z : ℤ). x i *ℤ z) (merge-mono x a b) ∙ sym (*ℤ-assoc (x i) (mono x a) (mono x b))

abbrev eq_m : List ℕ → List ℕ → Bool
eq_m [] [] = true
eq_m [] (j ∷ b) = false
eq_m (i ∷ a) [] = false
eq_m (i ∷ a) (j ∷ b) = both (eqb i j) (eq_m a b)

eq_m→eq : (a b : List ℕ) → T (eq_m a b) → a ≡ b
eq_m→eq [] [] t = refl
eq_m→eq [] (j ∷ b) t = absurd t
eq_m→eq (i ∷ a) [] t = absurd t
eq_m→eq (i ∷ a) (j ∷ b) t = ap₂ (λ (x : ℕ) (l : List ℕ). x ∷ l) (eqb→eq i j (both_left (eqb i j) (eq_m a b) t)) (eq_m→eq a b (both_right (eqb i j) (eq_m a b) t))

-- ---- sums of terms

pub data Terms : Type 0 where
  none : Terms
  term : ℤ → List ℕ → Terms → Terms

abbrev total : (ℕ → ℤ) → Terms → ℤ
total x none = pos 0
total x (term k m p) = k *ℤ mono x m +ℤ total x p

abbrev choose : Bool → Terms → Terms → Terms
choose true a b = a
choose false a b = b

-- one term more: into the term with the same variables, if there is one
abbrev put : ℤ → List ℕ → Terms → Terms
put k m none = term k m none
put k m (term l n p) = choose (eq_m m n) (term (k +ℤ l) n p) (term l n (put k m p))

choose-total : (x : ℕ → ℤ) (t : Bool) (a b : Terms) (z : ℤ) → (T t → total x a ≡ z) → total x b ≡ z → total x (choose t a b) ≡ z
choose-total x true a b z p q = p tt
choose-total x false a b z p q = q

put-total : (x : ℕ → ℤ) (k : ℤ) (m : List ℕ) (p : Terms) → total x (put k m p) ≡ k *ℤ mono x m +ℤ total x p
put-total x k m none = refl
put-total x k m (term l n p) =
    choose-total x (eq_m m n) (term (k +ℤ l) n p) (term l n (put k m p)) (k *ℤ mono x m +ℤ (l *ℤ mono x n +ℤ total x p))
    (λ t. ap (λ (z : ℤ). z +ℤ total x p) (*ℤ-distr k l (mono x n))
    ∙ +ℤ_assoc (k *ℤ mono x n) (l *ℤ mono x n) (total x p)
    ∙ ap (λ (v : List ℕ). k *ℤ mono x v +ℤ (l *ℤ mono x n +ℤ total x p)) (sym (eq_m→eq m n t)))
    (ap (λ (z : ℤ). l *ℤ mono x n +ℤ z) (put-total x k m p)
    ∙ sym (+ℤ_assoc (l *ℤ mono x n) (k *ℤ mono x m) (total x p))
    ∙ ap (λ (z : ℤ). z +ℤ total x p) (+ℤ_comm (l *ℤ mono x n) (k *ℤ mono x m))
    ∙ +ℤ_assoc (k *ℤ mono x m) (l *ℤ mono x n) (total x p))

abbrev plus : Terms → Terms → Terms
plus p none = p
plus p (term k m q) = put k m (plus p q)

plus-total : (x : ℕ → ℤ) (p q : Terms) → total x (plus p q) ≡ total x p +ℤ total x q
plus-total x p none = sym (+ℤ_idr (total x p))
plus-total x p (term k m q) =
    put-total x k m (plus p q) ∙ ap (λ (z : ℤ). k *ℤ mono x m +ℤ z) (plus-total x p q) ∙ into-right (k *ℤ mono x m) (total x p) (total x q)
  where
    into-right : (a b c : ℤ) → a +ℤ (b +ℤ c) ≡ b +ℤ (a +ℤ c)
    into-right a b c = sym (+ℤ_assoc a b c) ∙ ap (λ (z : ℤ). z +ℤ c) (+ℤ_comm a b) ∙ +ℤ_assoc b a c

-- q times the number k and the variables m, added to r
abbrev scaled : ℤ → List ℕ → Terms → Terms → Terms
scaled k m none r = r
scaled k m (term l n q) r = put (k *ℤ l) (merge m n) (scaled k m q r)

scaled-total : (x : ℕ → ℤ) (k : ℤ) (m : List ℕ) (q r : Terms) → total x (scaled k m q r) ≡ (k *ℤ mono x m) *ℤ total x q +ℤ total x r
scaled-total x k m none r = sym (ap (λ (z : ℤ). z +ℤ total x r) (*ℤ-zero (k *ℤ mono x m)) ∙ +ℤ_idl (total x r))
scaled-total x k m (term l n q) r =
    put-total x (k *ℤ l) (merge m n) (scaled k m q r)
    ∙ ap₂ ◌+ℤ◌
    (ap (λ (z : ℤ). (k *ℤ l) *ℤ z) (merge-mono x m n) ∙ four k l (mono x m) (mono x n)) (scaled-total x k m q r)
    ∙ sym (+ℤ_assoc ((k *ℤ mono x m) *ℤ (l *ℤ mono x n)) ((k *ℤ mono x m) *ℤ total x q) (total x r))
    ∙ ap (λ (z : ℤ). z +ℤ total x r) (sym (*ℤ-distl (k *ℤ mono x m) (l *ℤ mono x n) (total x q)))
  where
    four : (a b c d : ℤ) → (a *ℤ b) *ℤ (c *ℤ d) ≡ (a *ℤ c) *ℤ (b *ℤ d)
    four a b c d = *ℤ-assoc a b (c *ℤ d) ∙ ap (λ (z : ℤ). a *ℤ z) (swap b c d) ∙ sym (*ℤ-assoc a c (b *ℤ d))

abbrev product : Terms → Terms → Terms
product none q = none
product (term k m p) q = scaled k m q (product p q)

product-total : (x : ℕ → ℤ) (p q : Terms) → total x (product p q) ≡ total x p *ℤ total x q
product-total x none q = sym (zero-*ℤ (total x q))
product-total x (term k m p) q =
    scaled-total x k m q (product p q) ∙ ap (λ (z : ℤ). (k *ℤ mono x m) *ℤ total x q +ℤ z) (product-total x p q)
    ∙ sym (*ℤ-distr (k *ℤ mono x m) (total x p) (total x q))

abbrev minus : Terms → Terms
minus none = none
minus (term k m p) = term (neg_ℤ k) m (minus p)

minus-total : (x : ℕ → ℤ) (p : Terms) → total x (minus p) ≡ neg_ℤ (total x p)
minus-total x none = refl
minus-total x (term k m p) =
    ap₂ ◌+ℤ◌ (neg-*ℤ k (mono x m)) (minus-total x p) ∙ sym (neg_ℤ-+ℤ (k *ℤ mono x m) (total x p))

-- ---- expressions
abbrev nf : Ex → Terms
nf (var i) = term (pos 1) (i ∷ []) none
nf (lit z) = term z [] none
nf (add a b) = plus (nf a) (nf b)
nf (sub a b) = plus (nf a) (minus (nf b))
nf (mul a b) = product (nf a) (nf b)
nf (neg a) = minus (nf a)
nf (shr a k) = none
nf (loc w a) = nf a

-- no shift in it
abbrev smooth : Ex → Bool
smooth (var i) = true
smooth (lit z) = true
smooth (add a b) = both (smooth a) (smooth b)
smooth (sub a b) = both (smooth a) (smooth b)
smooth (mul a b) = both (smooth a) (smooth b)
smooth (neg a) = smooth a
smooth (shr a k) = false
smooth (loc w a) = smooth a

one_right : (z : ℤ) → z *ℤ pos 1 ≡ z
one_right z = *ℤ_comm z (pos 1) ∙ one-*ℤ z

val-nf : (x : ℕ → ℤ) (a : Ex) → T (smooth a) → val x a ≡ total x (nf a)
val-nf x (var i) t = sym (+ℤ_idr (pos 1 *ℤ (x i *ℤ pos 1)) ∙ one-*ℤ (x i *ℤ pos 1) ∙ one_right (x i))
val-nf x (lit z) t = sym (+ℤ_idr (z *ℤ pos 1) ∙ one_right z)
val-nf x (add a b) t =
    ap₂ ◌+ℤ◌ (val-nf x a (both_left (smooth a) (smooth b) t)) (val-nf x b (both_right (smooth a) (smooth b) t))
    ∙ sym (plus-total x (nf a) (nf b))
val-nf x (sub a b) t =
    ap₂ ◌+ℤ◌ (val-nf x a (both_left (smooth a) (smooth b) t))
    (ap neg_ℤ (val-nf x b (both_right (smooth a) (smooth b) t)) ∙ sym (minus-total x (nf b)))
    ∙ sym (plus-total x (nf a) (minus (nf b)))
val-nf x (mul a b) t =
    ap₂ ◌*ℤ◌ (val-nf x a (both_left (smooth a) (smooth b) t)) (val-nf x b (both_right (smooth a) (smooth b) t))
    ∙ sym (product-total x (nf a) (nf b))
val-nf x (neg a) t = ap neg_ℤ (val-nf x a t) ∙ sym (minus-total x (nf a))
val-nf x (shr a k) t = absurd t
val-nf x (loc w a) t = val-nf x a t

abbrev gone : Terms → Bool
gone none = true
gone (term k m p) = both (eq_z k (pos 0)) (gone p)

gone-total : (x : ℕ → ℤ) (p : Terms) → T (gone p) → total x p ≡ pos 0
gone-total x none t = refl
gone-total x (term k m p) t =
    ap₂ (λ (u v : ℤ). u *ℤ mono x m +ℤ v) (eq_z→eq k (pos 0) (both_left (eq_z k (pos 0)) (gone p) t)) (gone-total x p (both_right (eq_z k (pos 0)) (gone p) t))
    ∙ ap (λ (z : ℤ). z +ℤ pos 0) (zero-*ℤ (mono x m))

-- the test: no shift, and no term of a − b is left
abbrev pub agree : Ex → Ex → Bool
agree a b = both (smooth (sub a b)) (gone (nf (sub a b)))

pub ring : (x : ℕ → ℤ) (a b : Ex) → T (agree a b) → val x a ≡ val x b
ring x a b t =
    sym (-ℤ-+ℤ_cancel (val x a) (val x b))
    ∙ ap (λ (z : ℤ). z +ℤ val x b)
    (val-nf x (sub a b) (both_left (smooth (sub a b)) (gone (nf (sub a b))) t)
    ∙ gone-total x (nf (sub a b)) (both_right (smooth (sub a b)) (gone (nf (sub a b))) t))
    ∙ +ℤ_idl (val x b)

-- ---- a list of expressions is F 0, F 1, ..
abbrev pub agree-all : List Ex → (ℕ → Ex) → Bool
agree-all [] F = true
agree-all (e ∷ es) F = both (agree e (F zero)) (agree-all es (λ i. F (suc i)))

pub rings : (x : ℕ → ℤ) (es : List Ex) (F : ℕ → Ex) → T (agree-all es F) → map (val x) es ≡ tab (length es) (λ i. val x (F i))
unfolding tab
rings x [] F t = refl
rings x (e ∷ es) F t =
    ap₂ (λ (z : ℤ) (l : List ℤ). z ∷ l) (ring x e (F zero) (both_left (agree e (F zero)) (agree-all es (λ i. F (suc i))) t))
    (rings x es (λ i. F (suc i)) (both_right (agree e (F zero)) (agree-all es (λ i. F (suc i))) t))

-- a sum as an expression
abbrev pub sum_e : ℕ → (ℕ → Ex) → Ex
sum_e zero F = lit (pos 0)
sum_e (suc n) F = add (sum_e n F) (F n)

pub sum-val : (x : ℕ → ℤ) (n : ℕ) (F : ℕ → Ex) → val x (sum_e n F) ≡ sum_z n (λ i. val x (F i))
unfolding sum
sum-val x zero F = refl
sum-val x (suc n) F = ap (λ (z : ℤ). z +ℤ val x (F n)) (sum-val x n F)
