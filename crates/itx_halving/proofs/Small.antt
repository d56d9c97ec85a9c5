-- Small sizes by straight code, once over the width v of the locals and the size A of a product, where v has room for eight products: a line of 2, the
-- odd inputs' share of a place in a line of 8, and a line of 4 from its even half. Of each: the numbers that the code forms, that each fits, and that
-- they are what they should be. Assumes nothing.
use mathlib.Core.Path.{◌≡◌, refl, ◌∙◌, subst}
use mathlib.Core.Bool.{Bool, true, false}
use mathlib.Core.List.{List, [], ◌∷◌}
use Prim.Native.Nat.{ℕ, zero, suc, ◌+◌, ◌*◌, ◌-◌, ◌^◌, ◌≤◌, ◌<◌}
use native.Mathlib.Omega.{arith}
use native.Mathlib.Nat.{lt_of_le_of_lt}
use lib.Dec.{T, ltb, ltb→lt, lt→ltb}
use lib.ListN.{get_or}
use lib.IntN.{ℤ, pos, ◌+ℤ◌, ◌-ℤ◌, nat_abs}
use mir.Syntax.{Width}
use mir.Val.{SFits, hbits, to_z, of_z}
use Rattle.integers.proofs.Every.{both}
use Rattle.integers.proofs.Expr.{Ex, var, add, sub, loc, Known, small, env, within, reads, fit}
use Rattle.evc.specs.Stages.{product}
use Rattle.itx_table.specs.Mirror.{Mirrored}
use Rattle.itx_halving.specs.Line.{rows}
use Rattle.itx_halving.specs.Straight.{Product, Odd, Line}
use Rattle.itx_halving.proofs.Straight.{odd-two, odd-four, two, joined}

-- what a local of width v holds of a number
abbrev pub kept : Width → ℤ → ℤ
kept v z = to_z v (of_z v z)

-- the sums of two and of four products, and the lines of 2 and of 4, as the code forms them
abbrev pub pair : Width → ℤ → ℤ → ℤ
pair v a b = kept v a +ℤ kept v b

abbrev pub four : Width → ℤ → ℤ → ℤ → ℤ → ℤ
four v a b c d = kept v (pair v a b) +ℤ kept v (pair v c d)

abbrev pub line-two : Width → ℤ → ℤ → ℤ → ℤ → List ℤ
line-two v a b c d = kept v (pair v a b) ∷ kept v (pair v c d) ∷ []

-- place n of an even half and a share of two products: their sum, their difference, and the difference turned round
abbrev pub low : Width → List ℤ → ℕ → ℤ → ℤ → ℤ
low v e n a b = kept v (get_or e n (pos 0)) +ℤ kept v (pair v a b)

abbrev pub high : Width → List ℤ → ℕ → ℤ → ℤ → ℤ
high v e n a b = kept v (get_or e n (pos 0)) -ℤ kept v (pair v a b)

abbrev pub turned : Width → List ℤ → ℕ → ℤ → ℤ → ℤ
turned v e n a b = kept v (pair v a b) -ℤ kept v (get_or e n (pos 0))

abbrev pub line-four : Width → List ℤ → ℤ → ℤ → ℤ → ℤ → List ℤ
line-four v e a b c d = kept v (low v e 0 a b) ∷ kept v (low v e 1 c d) ∷ kept v (high v e 1 c d) ∷ kept v (high v e 0 a b) ∷ []

-- the even half e of a line of 4, and the products of its odd inputs, 1 and 3, for the first place and for the second
pub record Halves (A : ℕ) (t : List ℤ) (w : ℕ) (x : List ℤ) (l j : ℕ) (e : List ℤ) (a b c d : ℤ) : Type 0 where
  pub even : Line (2 * A) (rows t (w + w)) 2 (l + l) x j e
  pub first1 : Product A (rows t w 1 0) (rows x l 1 j) a
  pub first3 : Product A (rows t w 3 0) (rows x l 3 j) b
  pub second1 : Product A (rows t w 1 1) (rows x l 1 j) c
  pub second3 : Product A (rows t w 3 1) (rows x l 3 j) d

-- what holds at the four places of a half
pub under-four : (P : ℕ → Type 0) → P 0 → P 1 → P 2 → P 3 → (n : ℕ) → n < 4 → P n
under-four P a b c d zero h = a
under-four P a b c d (suc zero) h = b
under-four P a b c d (suc (suc zero)) h = c
under-four P a b c d (suc (suc (suc zero))) h = d
under-four P a b c d (suc (suc (suc (suc n)))) h = let z : ⊥ = omega arith in absurd z

also : (a b : Bool) → T a → T b → T (both a b)
also true b s t = t
also false b s t = s

module _ (v : Width) (A : ℕ) (room : T (ltb (8 * A) (2 ^ hbits v))) where
  -- what up to eight products come to fits
  under : (n : ℕ) → n ≤ 8 * A → T (ltb n (2 ^ hbits v))
  under n h = lt→ltb n (2 ^ hbits v) (lt_of_le_of_lt h (ltb→lt (8 * A) (2 ^ hbits v) room))

  fits2 : T (ltb (A + A) (2 ^ hbits v))
  fits2 = under (A + A) (omega arith)

  -- a product in an expression
  abbrev one : {a b : ℤ} (r : ℤ) → Product A a b r → Known
  one r p = small v r A (record { bound = p.small }) (under A (omega arith))

  pub pair_fits : {s t x y a b : ℤ} → Product A s t a → Product A x y b → SFits v (pair v a b)
  pair_fits {a = a} {b = b} p q = fit (env (one a p ∷ one b q ∷ [])) v (add (var 0) (var 1)) fits2

  -- ---- four products
  module _ {s t x y s' t' x' y' a b c d : ℤ} (p : Product A s t a) (q : Product A x y b) (p' : Product A s' t' c) (q' : Product A x' y' d) where
    abbrev known : ℕ → Known
    known = env (one a p ∷ one b q ∷ one c p' ∷ one d q' ∷ [])

    abbrev ab : Ex
    ab = add (var 0) (var 1)

    abbrev cd : Ex
    cd = add (var 2) (var 3)

    abbrev all : Ex
    all = add (loc v ab) (loc v cd)

    both-fit : T (both (ltb (A + A) (2 ^ hbits v)) (ltb (A + A) (2 ^ hbits v)))
    both-fit = also (ltb (A + A) (2 ^ hbits v)) (ltb (A + A) (2 ^ hbits v)) fits2 fits2

    all_fit : T (both (both (ltb (A + A) (2 ^ hbits v)) (ltb (A + A) (2 ^ hbits v))) (ltb (A + A + (A + A)) (2 ^ hbits v)))
    all_fit =
        also (both (ltb (A + A) (2 ^ hbits v)) (ltb (A + A) (2 ^ hbits v))) (ltb (A + A + (A + A)) (2 ^ hbits v)) both-fit (under (A + A + (A + A)) (omega arith))

    pub four-fits : SFits v (four v a b c d)
    four-fits = fit known v all all_fit

    ab-is : kept v (pair v a b) ≡ a +ℤ b
    ab-is = reads known (loc v ab) fits2

    cd-is : kept v (pair v c d) ≡ c +ℤ d
    cd-is = reads known (loc v cd) fits2

    all-is : kept v (four v a b c d) ≡ a +ℤ b +ℤ (c +ℤ d)
    all-is = reads known (loc v all) all_fit

    -- bounds
    ab-in : nat_abs (kept v (pair v a b)) ≤ 2 * A
    ab-in = rw ab-is (let h = (within known ab).bound in omega (arith, h))

    cd-in : nat_abs (kept v (pair v c d)) ≤ 2 * A
    cd-in = rw cd-is (let h = (within known cd).bound in omega (arith, h))

    all_in : nat_abs (kept v (four v a b c d)) ≤ 4 * A
    all_in = rw all-is (let h = (within known all).bound in omega (arith, h))

  -- a line of 2: two products a place
  pub line-two-is : (M : ℕ → ℕ → ℤ) (l : ℕ) (x : List ℤ) (j : ℕ) {a b c d : ℤ} → Product A (M 0 0) (rows x l 0 j) a → Product A (M 1 0) (rows x l 1 j) b
      → Product A (M 0 1) (rows x l 0 j) c → Product A (M 1 1) (rows x l 1 j) d → Line (2 * A) M 2 l x j (line-two v a b c d)
  line-two-is M l x j {a} {b} {c} {d} p q p' q' = record { long = refl; at = at; small = in2 }
    where
      at : (n : ℕ) → n < 2 → get_or (line-two v a b c d) n (pos 0) ≡ product M 2 l x j n
      at zero h = ab-is p q p' q' ∙ two M l x j 0 p q
      at (suc zero) h = cd-is p q p' q' ∙ two M l x j 1 p' q'
      at (suc (suc n)) h = let z : ⊥ = omega arith in absurd z

      in2 : (n : ℕ) → n < 2 → nat_abs (get_or (line-two v a b c d) n (pos 0)) ≤ 2 * A
      in2 zero h = ab-in p q p' q'
      in2 (suc zero) h = cd-in p q p' q'
      in2 (suc (suc n)) h = let z : ⊥ = omega arith in absurd z

  -- the odd inputs' share of place n in a line of 8
  pub share-is : (M : ℕ → ℕ → ℤ) (l : ℕ) (x : List ℤ) (j n : ℕ) {a b c d : ℤ} → Product A (M 1 n) (rows x l 1 j) a → Product A (M 3 n) (rows x l 3 j) b
      → Product A (M 5 n) (rows x l 5 j) c → Product A (M 7 n) (rows x l 7 j) d → Odd (4 * A) M 4 l x j n (kept v (four v a b c d))
  share-is M l x j n p q p' q' = record { is = all-is p q p' q' ∙ odd-four M n (λ k. rows x l k j) p q p' q'; small = all_in p q p' q' }

  -- ---- a line of 4, from its even half and the odd inputs' products
  module _ {t : List ℤ} {w : ℕ} {x : List ℤ} {l j : ℕ} {e : List ℤ} {a b c d : ℤ} (g : Halves A t w x l j e a b c d) where
    abbrev half : (n : ℕ) → n < 2 → Known
    half n h = small v (get_or e n (pos 0)) (2 * A) (record { bound = g.even.small n h }) (under (2 * A) (omega arith))

    abbrev halves : ℕ → Known
    halves = env (half 0 (omega arith) ∷ half 1 (omega arith) ∷ one a g.first1 ∷ one b g.first3 ∷ one c g.second1 ∷ one d g.second3 ∷ [])

    abbrev o0 : Ex
    o0 = add (var 2) (var 3)

    abbrev o1 : Ex
    o1 = add (var 4) (var 5)

    step-fit : T (both (ltb (A + A) (2 ^ hbits v)) (ltb (2 * A + (A + A)) (2 ^ hbits v)))
    step-fit = also (ltb (A + A) (2 ^ hbits v)) (ltb (2 * A + (A + A)) (2 ^ hbits v)) fits2 (under (2 * A + (A + A)) (omega arith))

    turned-fit : T (both (both (ltb (A + A) (2 ^ hbits v)) true) (ltb (A + A + 2 * A) (2 ^ hbits v)))
    turned-fit =
        also (both (ltb (A + A) (2 ^ hbits v)) true) (ltb (A + A + 2 * A) (2 ^ hbits v)) (also (ltb (A + A) (2 ^ hbits v)) true fits2 tt) (under (A + A + 2 * A) (omega arith))

    pub low0-fits : SFits v (low v e 0 a b)
    low0-fits = fit halves v (add (var 0) (loc v o0)) step-fit

    pub low1-fits : SFits v (low v e 1 c d)
    low1-fits = fit halves v (add (var 1) (loc v o1)) step-fit

    pub high1-fits : SFits v (high v e 1 c d)
    high1-fits = fit halves v (sub (var 1) (loc v o1)) step-fit

    pub high0-fits : SFits v (high v e 0 a b)
    high0-fits = fit halves v (sub (var 0) (loc v o0)) step-fit

    -- a difference fits whichever half is taken from the other: which it is, is the result's business
    pub turned1-fits : SFits v (turned v e 1 c d)
    turned1-fits = fit halves v (sub (loc v o1) (var 1)) turned-fit

    pub turned0-fits : SFits v (turned v e 0 a b)
    turned0-fits = fit halves v (sub (loc v o0) (var 0)) turned-fit

    -- the odd inputs' shares
    abbrev o : ℕ → ℤ
    o n = get_or ((a +ℤ b) ∷ (c +ℤ d) ∷ []) n (pos 0)

    pub line-four-is : Mirrored 4 (rows t w) → Line (4 * A) (rows t w) 4 l x j (line-four v e a b c d)
    line-four-is m =
        let s : 2 * A + (A + A) ≡ 4 * A = omega arith in
        subst (λ (B : ℕ). Line B (rows t w) 4 l x j (line-four v e a b c d)) s (joined (2 * A) (A + A) t w x l j 2 e (line-four v e a b c d) o m (omega arith) g.even odds refl lows highs)
      where
        odds : (n : ℕ) → n < 2 → Odd (A + A) (rows t w) 2 l x j n (o n)
        odds zero h = record { is = odd-two (rows t w) 0 (λ k. rows x l k j) g.first1 g.first3; small = (within halves o0).bound }
        odds (suc zero) h = record { is = odd-two (rows t w) 1 (λ k. rows x l k j) g.second1 g.second3; small = (within halves o1).bound }
        odds (suc (suc n)) h = let z : ⊥ = omega arith in absurd z

        lows : (n : ℕ) → n < 2 → get_or (line-four v e a b c d) n (pos 0) ≡ get_or e n (pos 0) +ℤ o n
        lows zero h = reads halves (loc v (add (var 0) (loc v o0))) step-fit
        lows (suc zero) h = reads halves (loc v (add (var 1) (loc v o1))) step-fit
        lows (suc (suc n)) h = let z : ⊥ = omega arith in absurd z

        highs : (n : ℕ) → n < 2 → get_or (line-four v e a b c d) (2 + 2 - suc n) (pos 0) ≡ get_or e n (pos 0) -ℤ o n
        highs zero h = reads halves (loc v (sub (var 0) (loc v o0))) step-fit
        highs (suc zero) h = reads halves (loc v (sub (var 1) (loc v o1))) step-fit
        highs (suc (suc n)) h = let z : ⊥ = omega arith in absurd z
