-- A line of 4 as straight-line code makes it (`fits`, `line-is`), a line as calls read it, a line of 8 as two of 4, then the bounds of a line's
-- coefficients. Assumes nothing.
use mathlib.Core.Path.{◌≡◌, refl, ap, ap₂, ◌∙◌}
use mathlib.Core.List.{List, [], ◌∷◌, map}
use Prim.Native.Nat.{ℕ, zero, suc, ◌*◌, ◌≤◌, ◌<◌, ◌^◌, zero-le}
use native.Mathlib.Decide.{dec_lt}
use native.Mathlib.Omega.{arith}
use lib.Bits.{bit_and}
use lib.Count.{ones, ones_in}
use lib.Dec.{T}
use lib.ListN.{length, get_or, get_or-eq_default}
use lib.IntN.{ℤ, pos, neg_ℤ, ◌*ℤ◌, nat_abs, pow, one}
use lib.Signed.{mag}
use mir.Syntax.{w32}
use mir.Val.{SFits, hbits, to_z, of_z}
use Rattle.integers.specs.Lists.{tab}
use Rattle.integers.specs.Sum.{addition_z+, sum}
use Rattle.integers.proofs.Bits.{back}
use Rattle.integers.proofs.Bound.{abs-mul}
use Rattle.integers.proofs.Sum.{sum-ext, within-sum}
use Rattle.integers.proofs.Written.{tab-ext, tab-at, tab-length}
use Rattle.integers.proofs.Expr.{Ex, Known, var, lit, add, sub, mul, val, raw, loc, stored, bare, small, machines, sizes, ok, ok-all, fit, reads_all}
use Rattle.integers.proofs.Poly.{agree-all, rings, sum_e, sum-val}
use Rattle.evc.specs.Tiles.{sign}
use Rattle.satd_tiles.specs.Passes.{place, RowWithin, line, whole_line}

-- ---- the machine's line: its numbers are the variables
abbrev pub known : (x : List ℤ) → RowWithin 524288 x → ℕ → Known
known x h i = small w32 (place x i) 524288 (record { bound = h i }) tt

-- a sum or difference fits
pub fits : (x : List ℤ) (h : RowWithin 524288 x) (e : Ex) → T (ok (sizes (known x h)) (loc w32 (bare (stored w32 e)))) → SFits w32 (raw (machines (known x h)) (bare (stored w32 e)))
fits x h e t = fit (known x h) w32 (bare (stored w32 e)) t

-- coefficient b of a line of n, as an expression
abbrev pub line_e : ℕ → ℕ → Ex
line_e n b = sum_e n (λ i. mul (var i) (lit (sign b i)))

-- what the machine leaves is the line's coefficients
pub line-is : (x : List ℤ) (h : RowWithin 524288 x) (es : List Ex) → T (ok-all (known x h) es) → T (agree-all es (line_e (length es))) → map (raw (machines (known x h))) es ≡ whole_line (length es) x
unfolding line whole_line
line-is x h es t u =
    reads_all (known x h) es t ∙ rings (place x) es (line_e (length es)) u
    ∙ tab-ext (length es) (λ b. val (place x) (line_e (length es) b)) (line (length es) (place x))
    (λ b p. sum-val (place x) (length es) (λ i. mul (var i) (lit (sign b i))))

pub line_at : (n : ℕ) (x : List ℤ) (b : ℕ) → b < n → place (whole_line n x) b ≡ line n (place x) b
unfolding whole_line
line_at n x b h = tab-at n (line n (place x)) b (pos 0) h

-- lines whose numbers agree
pub line-ext : (n : ℕ) (x y : ℕ → ℤ) (b : ℕ) → ((i : ℕ) → i < n → x i ≡ y i) → line n x b ≡ line n y b
unfolding line
line-ext n x y b h = sum-ext addition_z+ n (λ i. x i *ℤ sign b i) (λ i. y i *ℤ sign b i) (λ i p. ap (λ (z : ℤ). z *ℤ sign b i) (h i p))

-- a line whose numbers were read by calls: each is what a call gave
pub took : {y : ℤ} {x ys : List ℤ} (z : ℤ) → mag z < 2 ^ hbits w32 → z ≡ y → x ≡ ys → to_z w32 (of_z w32 z) ∷ x ≡ y ∷ ys
took z f e es = ap₂ (λ (z : ℤ) (l : List ℤ). z ∷ l) (back w32 z f ∙ e) es

module _ (n : ℕ) where
  pub took-within : (B : ℕ) (x : List ℤ) (f : ℕ → ℤ) → x ≡ tab n f → ((i : ℕ) → nat_abs (f i) ≤ B) → RowWithin B x
  took-within B x f e h i = go (dec_lt i n)
    where
      go : Dec (i < n) → nat_abs (place x i) ≤ B
      go (yes p) = rw (e, tab-at n f i (pos 0) p) (h i)
      go (no p) = rw (e, get_or-eq_default (tab n f) (pos 0) {n = i} (rw (tab-length n f) (omega arith))) zero-le

  pub took-line : (x : List ℤ) (f : ℕ → ℤ) → x ≡ tab n f → (b : ℕ) → b < n → place (whole_line n x) b ≡ line n f b
  took-line x f e b p = line_at n x b p ∙ line-ext n (place x) f b (λ i q. ap (λ (l : List ℤ). place l i) e ∙ tab-at n f i (pos 0) q)

-- ---- a line of 8 is two of 4: the sums of its halves' numbers make the first coefficients, the differences the others
abbrev pub sums : List Ex
sums = add (var 0) (var 4) ∷ add (var 1) (var 5) ∷ add (var 2) (var 6) ∷ add (var 3) (var 7) ∷ []

abbrev pub differences : List Ex
differences = sub (var 0) (var 4) ∷ sub (var 1) (var 5) ∷ sub (var 2) (var 6) ∷ sub (var 3) (var 7) ∷ []

abbrev pub joined : List ℤ → List ℤ → List ℤ
joined l h = place l 0 ∷ place l 1 ∷ place l 2 ∷ place l 3 ∷ place h 0 ∷ place h 1 ∷ place h 2 ∷ place h 3 ∷ []

-- coefficient b of four expressions, as an expression
abbrev line_of : List Ex → ℕ → Ex
line_of es b = sum_e 4 (λ i. mul (get_or es i (lit (pos 0))) (lit (sign b i)))

pub two-lines : (x : List ℤ) → joined (whole_line 4 (map (val (place x)) sums)) (whole_line 4 (map (val (place x)) differences)) ≡ whole_line 8 x
unfolding line whole_line tab sum sign ones ones_in pow one
two-lines x =
    rings (place x)
    (line_of sums 0 ∷ line_of sums 1 ∷ line_of sums 2 ∷ line_of sums 3 ∷ line_of differences 0 ∷ line_of differences 1 ∷ line_of differences 2 ∷ line_of differences 3 ∷ [])
    (line_e 8) tt

pub four-within : {B : ℕ} (a b c d : ℤ) → nat_abs a ≤ B → nat_abs b ≤ B → nat_abs c ≤ B → nat_abs d ≤ B → RowWithin B (a ∷ b ∷ c ∷ d ∷ [])
four-within a b c d p q r s zero = p
four-within a b c d p q r s (suc zero) = q
four-within a b c d p q r s (suc (suc zero)) = r
four-within a b c d p q r s (suc (suc (suc zero))) = s
four-within a b c d p q r s (suc (suc (suc (suc i)))) = zero-le

-- ---- bounds: a sign has size 1
pow-size : (n : ℕ) → nat_abs (pow (neg_ℤ (pos 1)) n) ≡ 1
unfolding pow one
pow-size zero = refl
pow-size (suc n) = abs-mul (pow (neg_ℤ (pos 1)) n) (neg_ℤ (pos 1)) ∙ omega (arith, pow-size n)

pub signed-size : (x : ℤ) (a j : ℕ) → nat_abs (x *ℤ sign a j) ≡ nat_abs x
unfolding sign
signed-size x a j = abs-mul x (sign a j) ∙ rw (pow-size (ones (bit_and a j))) (omega arith)

pub line-within : (B n : ℕ) (x : ℕ → ℤ) (b : ℕ) → ((i : ℕ) → nat_abs (x i) ≤ B) → nat_abs (line n x b) ≤ n * B
unfolding line
line-within B n x b h = (within-sum n B (λ i. x i *ℤ sign b i) (λ i p. record { bound = rw (signed-size (x i) b i) (h i) })).bound

pub whole-within : (B n : ℕ) (x : List ℤ) → RowWithin B x → RowWithin (n * B) (whole_line n x)
unfolding whole_line
whole-within B n x h = took-within n (n * B) (tab n (line n (place x))) (line n (place x)) refl (λ b. line-within B n (place x) b h)
