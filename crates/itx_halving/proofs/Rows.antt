-- A line that is summed by straight code and stored is a line of the stage; what the code reads lies inside its buffers. Assumes nothing.
use mathlib.Core.Path.{◌≡◌, refl, sym, ap, ap₂, ◌∙◌, subst}
use mathlib.Core.List.{List, [], ◌∷◌, map}
use Prim.Native.Nat.{ℕ, suc, ◌+◌, ◌*◌, ◌^◌, ◌≤◌, ◌<◌}
use native.Mathlib.Omega.{arith}
use native.Mathlib.Nat.{le_trans}
use lib.Dec.{T as Holds, ltb}
use lib.ListN.{length, get_or}
use lib.IntN.{ℤ, pos, ◌*ℤ◌, nat_abs}
use mir.Syntax.{Width}
use mir.Val.{hbits, to_z, of_z}
use mir.Facts.{to_z-of_z}
use Rattle.integers.specs.Sum.{addition_z+}
use Rattle.integers.proofs.Bound.{sfits-within}
use Rattle.integers.proofs.Sum.{sum-ext}
use Rattle.integers.proofs.Written.{grid-at}
use Rattle.evc.specs.Stages.{product}
use Rattle.itx_halving.specs.Line.{Table}
use Rattle.itx_halving.specs.Lines.{Bounded, Next, Lined}
use Rattle.itx_halving.proofs.Instance.{Same}
use Rattle.itx_halving.proofs.Lines.{place, next-ext, left}
use Rattle.itx_halving.specs.Straight.{Reach, Line}

pub reach-at : {t x : List ℤ} (w N l j : ℕ) → Table t w N → j < l → N * l ≤ length x → Reach t w x l j N
reach-at w N l j g a r = record { table = g.room; input = λ k h. place k l j N _ h a r }

-- the sums of stage two have room for the rounding number
pub bounded : {B N l j : ℕ} {T : ℕ → ℕ → ℤ} {x y : List ℤ} → Line B T N l x j y → B ≤ 17592186044416 → Bounded y N
bounded s h = record { small = λ k r. le_trans (s.small k r) h }

-- two tables that are the same where a line reads them
pub same_sum : (T U : ℕ → ℕ → ℤ) (N l j k : ℕ) (x : List ℤ) → Same N T U → k < N → product T N l x j k ≡ product U N l x j k
unfolding product
same_sum T U N l j k x e h = sum-ext addition_z+ N _ _ (λ i r. ap (λ (z : ℤ). z *ℤ get_or x (i * l + j) (pos 0)) (e i k r h))

-- the stage leaves f of each sum
pub rowed :
    (f : ℤ → ℤ) {T U : ℕ → ℕ → ℤ} {B N l j : ℕ} {src d₀ d y : List ℤ} →
    Same N T U →
    Line B T N l src j y →
    Next d₀ d (j * N) N (λ k. f (get_or y k (pos 0))) →
    Lined (left f U N l j src) d₀ d N j
rowed f {T} {U} {B} {N} {l} {j} {src} e s n =
    next-ext n (λ k h. ap f (s.at k h ∙ same_sum T U N l j k src e h) ∙ sym (grid-at (λ j k. f (product U N l src j k)) j k N h))

-- sums that fit a width, as the machine holds them
module _ (w : Width) (B : ℕ) (g : Holds (ltb B (2 ^ hbits w))) where
  abbrev pub machine : List ℤ → List ℤ
  machine y = map (λ z. to_z w (of_z w z)) y

  same : (y : List ℤ) → ((k : ℕ) → k < length y → nat_abs (get_or y k (pos 0)) ≤ B) → machine y ≡ y
  same [] h = refl
  same (z ∷ y) h = ap₂ ◌∷◌ (to_z-of_z (sfits-within (record { bound = h 0 (omega arith) }) g)) (same y (λ k r. h (suc k) (omega arith)))

  pub held : {T : ℕ → ℕ → ℤ} {N l j : ℕ} {x : List ℤ} (y : List ℤ) → Line B T N l x j y → Line B T N l x j (machine y)
  held {T} {N} {l} {j} {x} y s = subst (Line B T N l x j) (sym (same y (λ k h. s.small k (omega (arith, s.long))))) s
