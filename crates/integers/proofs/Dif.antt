-- ℤ as differences of ℕ: `dif a b` is a − b, and every z is `dif (up z) (dn z)`. The bridge by which `omega` proves identities of ℤ:
--     rw (of a, of b) (simp difs (dif-eq _ _ _ _ (omega arith)))
-- First a difference by cases, then when two are equal, then what each operation makes of them, and the ruleset `difs`. Assumes nothing.
use mathlib.Core.Path.{◌≡◌, refl, sym, ap, ◌∙◌}
use mathlib.Core.Bool.{Bool, true, false, cond}
use Prim.Native.Nat.{ℕ, zero, suc, ◌+◌, ◌*◌, ◌-◌, ◌≤◌, ◌<◌}
use native.Mathlib.Omega.{arith}
use lib.Dec.{ltb}
use borrow.Author.Tests.{lt-ltb, le-ltb, ltb-true, ltb-false}
use lib.IntN.{ℤ, pos, negsuc, ◌+ℤ◌, ◌-ℤ◌, ◌*ℤ◌, neg_ℤ, sub_ℕ}

-- the positive and the negative part: z = up z − dn z
abbrev pub up : ℤ → ℕ
up (pos n) = n
up (negsuc n) = 0

abbrev pub dn : ℤ → ℕ
dn (pos n) = 0
dn (negsuc n) = suc n

pub dif : ℕ → ℕ → ℤ
dif a b = sub_ℕ a b

-- a − b by cases
sub-ge : (a b : ℕ) → b ≤ a → sub_ℕ a b ≡ pos (a - b)
sub-ge a b h = ap (λ (t : Bool). cond t (negsuc (b - suc a)) (pos (a - b))) (le-ltb a b h)

sub-lt : (a b : ℕ) → a < b → sub_ℕ a b ≡ negsuc (b - suc a)
sub-lt a b h = ap (λ (t : Bool). cond t (negsuc (b - suc a)) (pos (a - b))) (lt-ltb a b h)

data Split (a b : ℕ) : Type 0 where
  ge : (k : ℕ) → a ≡ b + k → sub_ℕ a b ≡ pos k → Split a b
  lt : (k : ℕ) → b ≡ a + suc k → sub_ℕ a b ≡ negsuc k → Split a b

split' : (a b : ℕ) (t : Bool) → ltb a b ≡ t → Split a b
split' a b true e = let h : a < b = ltb-true a b e in lt (b - suc a) (omega arith) (sub-lt a b h)
split' a b false e = let h : b ≤ a = ltb-false a b e in ge (a - b) (omega arith) (sub-ge a b h)

split : (a b : ℕ) → Split a b
split a b = split' a b (ltb a b) refl

-- two differences are one where a + d ≡ c + b
eq' : (a b c d : ℕ) → a + d ≡ c + b → Split a b → Split c d → sub_ℕ a b ≡ sub_ℕ c d
eq' a b c d h (ge k p q) (ge l r s) = let e : k ≡ l = omega arith in q ∙ ap pos e ∙ sym s
eq' a b c d h (ge k p q) (lt l r s) = let z : ⊥ = omega arith in absurd z
eq' a b c d h (lt k p q) (ge l r s) = let z : ⊥ = omega arith in absurd z
eq' a b c d h (lt k p q) (lt l r s) = let e : k ≡ l = omega arith in q ∙ ap negsuc e ∙ sym s

pub dif-eq : (a b c d : ℕ) → a + d ≡ c + b → dif a b ≡ dif c d
unfolding dif
dif-eq a b c d h = eq' a b c d h (split a b) (split c d)

pub of : (z : ℤ) → z ≡ dif (up z) (dn z)
unfolding dif
of (pos n) = let e : n ≡ n - 0 = omega arith in ap pos e ∙ sym (sub-ge n 0 (omega arith))
of (negsuc n) = let e : n ≡ suc n - 1 = omega arith in ap negsuc e ∙ sym (sub-lt 0 (suc n) (omega arith))

pub of-pos : (n : ℕ) → pos n ≡ dif n 0
of-pos n = of (pos n)

pub of-negsuc : (n : ℕ) → negsuc n ≡ dif 0 (suc n)
of-negsuc n = of (negsuc n)

-- ---- the operations

add' : (x y : ℤ) → x +ℤ y ≡ sub_ℕ (up x + up y) (dn x + dn y)
add' (pos a) (pos b) = let e : a + b ≡ a + b - 0 = omega arith in ap pos e ∙ sym (sub-ge (a + b) (0 + 0) (omega arith))
add' (pos a) (negsuc b) = eq' a (suc b) (a + 0) (0 + suc b) (omega arith) (split a (suc b)) (split (a + 0) (0 + suc b))
add' (negsuc a) (pos b) = eq' b (suc a) (0 + b) (suc a + 0) (omega arith) (split b (suc a)) (split (0 + b) (suc a + 0))
add' (negsuc a) (negsuc b) = let e : suc (a + b) ≡ (suc a + suc b) - suc (0 + 0) = omega arith in ap negsuc e ∙ sym (sub-lt (0 + 0) (suc a + suc b) (omega arith))

-- up and dn of a difference
part : (a b : ℕ) → Split a b → up (sub_ℕ a b) + b ≡ a + dn (sub_ℕ a b)
part a b (ge k p q) = rw q (omega arith)
part a b (lt k p q) = rw q (omega arith)

pub dif-part : (a b : ℕ) → up (dif a b) + b ≡ a + dn (dif a b)
unfolding dif
dif-part a b = part a b (split a b)

pub dif-add : (a b c d : ℕ) → dif a b +ℤ dif c d ≡ dif (a + c) (b + d)
unfolding dif
dif-add a b c d =
    let x = dif-part a b in
    let y = dif-part c d in
    add' (dif a b) (dif c d) ∙ dif-eq (up (dif a b) + up (dif c d)) (dn (dif a b) + dn (dif c d)) (a + c) (b + d) (omega arith)

neg' : (x : ℤ) → neg_ℤ x ≡ sub_ℕ (dn x) (up x)
neg' (pos zero) = refl
neg' (pos (suc n)) = let e : n ≡ suc n - 1 = omega arith in ap negsuc e ∙ sym (sub-lt 0 (suc n) (omega arith))
neg' (negsuc n) = let e : suc n ≡ suc n - 0 = omega arith in ap pos e ∙ sym (sub-ge (suc n) 0 (omega arith))

pub dif_neg : (a b : ℕ) → neg_ℤ (dif a b) ≡ dif b a
unfolding dif
dif_neg a b = let x = dif-part a b in neg' (dif a b) ∙ dif-eq (dn (dif a b)) (up (dif a b)) b a (omega arith)

pub dif-sub : (a b c d : ℕ) → dif a b -ℤ dif c d ≡ dif (a + d) (b + c)
dif-sub a b c d = ap (λ (z : ℤ). dif a b +ℤ z) (dif_neg c d) ∙ dif-add a b d c

mul' : (x y : ℤ) → x *ℤ y ≡ dif (up x * up y + dn x * dn y) (up x * dn y + dn x * up y)
mul' (pos a) (pos b) = of-pos (a * b) ∙ dif-eq (a * b) 0 (a * b + 0 * 0) (a * 0 + 0 * b) (omega arith)
mul' (pos a) (negsuc b) = ap neg_ℤ (of-pos (a * suc b)) ∙ dif_neg (a * suc b) 0 ∙ dif-eq 0 (a * suc b) (a * 0 + 0 * suc b) (a * suc b + 0 * 0) (omega arith)
mul' (negsuc a) (pos b) = ap neg_ℤ (of-pos (suc a * b)) ∙ dif_neg (suc a * b) 0 ∙ dif-eq 0 (suc a * b) (0 * b + suc a * 0) (0 * 0 + suc a * b) (omega arith)
mul' (negsuc a) (negsuc b) = of-pos (suc a * suc b) ∙ dif-eq (suc a * suc b) 0 (0 * 0 + suc a * suc b) (0 * suc b + suc a * 0) (omega arith)

pub dif-mul : (a b c d : ℕ) → dif a b *ℤ dif c d ≡ dif (a * c + b * d) (a * d + b * c)
dif-mul a b c d = go (up (dif a b)) (dn (dif a b)) (up (dif c d)) (dn (dif c d)) (dif-part a b) (dif-part c d)
    (mul' (dif a b) (dif c d))
  where
    go : (x x' y y' : ℕ) → x + b ≡ a + x' → y + d ≡ c + y' → dif a b *ℤ dif c d ≡ dif (x * y + x' * y') (x * y' + x' * y) → dif a b *ℤ dif c d ≡ dif (a * c + b * d) (a * d + b * c)
    go x x' y y' p q e =
        let p₁ = ap (λ (n : ℕ). n * y) p in
        let p₂ = ap (λ (n : ℕ). n * y') p in
        let q₁ = ap (λ (n : ℕ). n * a) q in
        let q₂ = ap (λ (n : ℕ). n * b) q in
        e ∙ dif-eq (x * y + x' * y') (x * y' + x' * y) (a * c + b * d) (a * d + b * c) (omega arith)

-- the set by which `simp` brings an expression of ℤ to one difference
pub ruleset difs = (dif-add, dif-sub, dif_neg, dif-mul, of-pos, of-negsuc)
