-- Straight-line signed code, by reflection. `Ex` is an expression as the machine computes it; `loc w e` is what went through a local or a
-- cast of width w. Under an environment ρ of what is known of each variable (`Known`, made by `arg`, `small`, `nat`, `held`):
--     raw    the machine's number, with `to_z w (of_z w ..)` at each local: the text of a need's goal
--     val    the exact number, with none of them
--     bound  a bound on its absolute value, and ok: each local's value fits its width, by the bounds. Both compute, so that the proof is `tt`
-- `fit ρ w e tt` answers a need that e fits w, `reads ρ e tt` says that the machine's number is the exact one. Poly proves identities of
-- exact numbers. First the syntax, then the variables, then the laws, then variables that a loop changes. Assumes nothing.
use mathlib.Core.Path.{◌≡◌, refl, sym, ap, ap₂, ◌∙◌, subst}
use mathlib.Core.Bool.{Bool, true}
use mathlib.Core.List.{List, [], ◌∷◌, map}
use Prim.Native.Nat.{ℕ, ◌+◌, ◌*◌, ◌≤◌, ◌^◌}
use native.Mathlib.Nat.{lt_of_le_of_lt}
use lib.Dec.{T, ltb, ltb→lt}
use lib.IntN.{ℤ, pos, neg_ℤ, ◌+ℤ◌, ◌-ℤ◌, ◌*ℤ◌, nat_abs}
use lib.ListN.{get_or}
use lib.Signed.{shr_z, ◌≤ℤ◌, non_neg, yes_non_neg}
use mir.Syntax.{Width}
use mir.Val.{Fits, SFits, bits, hbits, to_z, of_z}
use mir.Facts.{to_z-of_z, to_z_pos}
use Rattle.integers.proofs.Every.{both, both_left, both_right}
use Rattle.integers.proofs.Bound.{Within, within-add, within-sub, within-neg, within-mul, within-const, within-pos, within-sfits, within-shr, within-mono, sfits-within}

pub data Ex : Type 0 where
  var : ℕ → Ex
  lit : ℤ → Ex
  add sub mul : Ex → Ex → Ex
  neg : Ex → Ex
  -- shifted right by a number of bits
  shr : Ex → ℕ → Ex
  loc : Width → Ex → Ex

abbrev pub val : (ℕ → ℤ) → Ex → ℤ
val x (var i) = x i
val x (lit z) = z
val x (add a b) = val x a +ℤ val x b
val x (sub a b) = val x a -ℤ val x b
val x (mul a b) = val x a *ℤ val x b
val x (neg a) = neg_ℤ (val x a)
val x (shr a k) = shr_z (val x a) (2 ^ k)
val x (loc w a) = val x a

abbrev pub raw : (ℕ → ℤ) → Ex → ℤ
raw x (var i) = x i
raw x (lit z) = z
raw x (add a b) = raw x a +ℤ raw x b
raw x (sub a b) = raw x a -ℤ raw x b
raw x (mul a b) = raw x a *ℤ raw x b
raw x (neg a) = neg_ℤ (raw x a)
raw x (shr a k) = shr_z (raw x a) (2 ^ k)
raw x (loc w a) = to_z w (of_z w (raw x a))

-- where variable i is at most n i in absolute value
abbrev pub bound : (ℕ → ℕ) → Ex → ℕ
bound n (var i) = n i
bound n (lit z) = nat_abs z
bound n (add a b) = bound n a + bound n b
bound n (sub a b) = bound n a + bound n b
bound n (mul a b) = bound n a * bound n b
bound n (neg a) = bound n a
bound n (shr a k) = bound n a
bound n (loc w a) = bound n a

abbrev pub ok : (ℕ → ℕ) → Ex → Bool
ok n (var i) = true
ok n (lit z) = true
ok n (add a b) = both (ok n a) (ok n b)
ok n (sub a b) = both (ok n a) (ok n b)
ok n (mul a b) = both (ok n a) (ok n b)
ok n (neg a) = ok n a
ok n (shr a k) = ok n a
ok n (loc w a) = both (ok n a) (ltb (bound n a) (2 ^ hbits w))

-- where each operation's result goes through a local of one width w: the whole, and the whole before it is stored, as a need states it
abbrev pub stored : Width → Ex → Ex
stored w (var i) = var i
stored w (lit z) = lit z
stored w (add a b) = loc w (add (stored w a) (stored w b))
stored w (sub a b) = loc w (sub (stored w a) (stored w b))
stored w (mul a b) = loc w (mul (stored w a) (stored w b))
stored w (neg a) = loc w (neg (stored w a))
stored w (shr a k) = loc w (shr (stored w a) k)
stored w (loc v a) = loc v (stored w a)

abbrev pub bare : Ex → Ex
bare (loc w a) = a
bare (var i) = var i
bare (lit z) = lit z
bare (add a b) = add a b
bare (sub a b) = sub a b
bare (mul a b) = mul a b
bare (neg a) = neg a
bare (shr a k) = shr a k

-- ---- what is known of a variable: as a goal states it, the number that it is, and a bound on that number's absolute value
pub record Known : Type 0 where
  pub machine : ℤ
  pub exact : ℤ
  pub size : ℕ
  pub same : machine ≡ exact
  pub within : Within size exact

-- a signed value of width w
abbrev pub arg : (w : Width) (z : ℤ) → SFits w z → Known
arg w z f = record { machine = to_z w (of_z w z); exact = z; size = 2 ^ hbits w; same = to_z-of_z f; within = within-sfits f }

-- one with a closer bound
abbrev pub small : (w : Width) (z : ℤ) (n : ℕ) → Within n z → T (ltb n (2 ^ hbits w)) → Known
small w z n h t = record { machine = to_z w (of_z w z); exact = z; size = n; same = to_z-of_z (sfits-within h t); within = h }

-- an unsigned value that is cast to the signed width w
abbrev pub nat : (w : Width) (a n : ℕ) → a ≤ n → T (ltb n (2 ^ hbits w)) → Known
nat w a n h t = record {
  machine = to_z w a;
  exact = pos a;
  size = n;
  same = to_z_pos w (lt_of_le_of_lt h (ltb→lt n (2 ^ hbits w) t));
  within = within-mono h (within-pos a);
}

-- the variables of a list, in order
abbrev pub env : List Known → ℕ → Known
env xs i = get_or xs i (record { machine = pos 0; exact = pos 0; size = 0; same = refl; within = within-pos 0 })

-- ---- the laws
module _ (ρ : ℕ → Known) where
  abbrev pub machines : ℕ → ℤ
  machines i = (ρ i).machine

  abbrev pub exacts : ℕ → ℤ
  exacts i = (ρ i).exact

  abbrev pub sizes : ℕ → ℕ
  sizes i = (ρ i).size

  pub within : (e : Ex) → Within (bound sizes e) (val exacts e)
  within (var i) = (ρ i).within
  within (lit z) = within-const z
  within (add a b) = within-add (within a) (within b)
  within (sub a b) = within-sub (within a) (within b)
  within (mul a b) = within-mul (within a) (within b)
  within (neg a) = within-neg (within a)
  within (shr a k) = within-shr (2 ^ k) (within a)
  within (loc w a) = within a

  pub reads : (e : Ex) → T (ok sizes e) → raw machines e ≡ val exacts e
  reads (var i) t = (ρ i).same
  reads (lit z) t = refl
  reads (add a b) t = ap₂ ◌+ℤ◌ (reads a (both_left (ok sizes a) (ok sizes b) t)) (reads b (both_right (ok sizes a) (ok sizes b) t))
  reads (sub a b) t = ap₂ ◌-ℤ◌ (reads a (both_left (ok sizes a) (ok sizes b) t)) (reads b (both_right (ok sizes a) (ok sizes b) t))
  reads (mul a b) t = ap₂ ◌*ℤ◌ (reads a (both_left (ok sizes a) (ok sizes b) t)) (reads b (both_right (ok sizes a) (ok sizes b) t))
  reads (neg a) t = ap neg_ℤ (reads a t)
  reads (shr a k) t = ap (λ (z : ℤ). shr_z z (2 ^ k)) (reads a t)
  reads (loc w a) t =
      ap (λ (z : ℤ). to_z w (of_z w z)) (reads a (both_left (ok sizes a) (ltb (bound sizes a) (2 ^ hbits w)) t))
      ∙ to_z-of_z (sfits-within (within a) (both_right (ok sizes a) (ltb (bound sizes a) (2 ^ hbits w)) t))

  -- the exact number fits, and so does the machine's
  pub fit-exact : (w : Width) (e : Ex) → T (ok sizes (loc w e)) → SFits w (val exacts e)
  fit-exact w e t = sfits-within (within e) (both_right (ok sizes e) (ltb (bound sizes e) (2 ^ hbits w)) t)

  pub fit : (w : Width) (e : Ex) → T (ok sizes (loc w e)) → SFits w (raw machines e)
  fit w e t = subst (SFits w) (sym (reads e (both_left (ok sizes e) (ltb (bound sizes e) (2 ^ hbits w)) t))) (fit-exact w e t)

  -- a cast to an unsigned width of a number that is not negative
  pub to-unsigned : (w : Width) (e : Ex) → T (ok sizes e) → T (ltb (bound sizes e) (2 ^ bits w)) → pos 0 ≤ℤ val exacts e → T (non_neg (raw machines e)) × Fits w (nat_abs (raw machines e))
  to-unsigned w e t u h =
      rw (reads e t) (yes_non_neg h, record { fits = lt_of_le_of_lt (within e).bound (ltb→lt (bound sizes e) (2 ^ bits w) u) })

  -- a list of results
  abbrev pub ok-all : List Ex → Bool
  ok-all [] = true
  ok-all (e ∷ es) = both (ok sizes e) (ok-all es)

  pub reads_all : (es : List Ex) → T (ok-all es) → map (raw machines) es ≡ map (val exacts) es
  reads_all [] t = refl
  reads_all (e ∷ es) t =
      ap₂ (λ (z : ℤ) (l : List ℤ). z ∷ l) (reads e (both_left (ok sizes e) (ok-all es) t)) (reads_all es (both_right (ok sizes e) (ok-all es) t))

-- ---- a signed variable that a loop changes is its bits in the invariant: it holds z, and |z| is at most n
pub record Holds (w : Width) (n b : ℕ) (z : ℤ) : Type 0 where
  pub bits_of : b ≡ of_z w z
  pub size : Within n z

-- its number, where n is at most a bound m that fits
pub held_reads : {w : Width} {n b : ℕ} {z : ℤ} (m : ℕ) → Holds w n b z → n ≤ m → T (ltb m (2 ^ hbits w)) → to_z w b ≡ z
held_reads {w} m h p t = ap (to_z w) h.bits_of ∙ to_z-of_z (sfits-within (within-mono p h.size) t)

-- such a variable in an expression
abbrev pub held : (w : Width) (n b : ℕ) (z : ℤ) (m : ℕ) → Holds w n b z → n ≤ m → T (ltb m (2 ^ hbits w)) → Known
held w n b z m h p t = record { machine = to_z w b; exact = z; size = m; same = held_reads m h p t; within = within-mono p h.size }

-- where the loop begins, with a literal
pub holds-lit : (w : Width) (n : ℕ) (y z : ℤ) → y ≡ z → nat_abs y ≤ n → Holds w n (of_z w y) z
holds-lit w n y z p h = record { bits_of = ap (of_z w) p; size = subst (Within n) p (within-mono h (within-const y)) }

-- a turn's new value, as the invariant asks it
pub holds : (ρ : ℕ → Known) (w : Width) (n : ℕ) (e : Ex) (z : ℤ) → T (ok (sizes ρ) e) → val (exacts ρ) e ≡ z → Within n z → Holds w n (of_z w (raw (machines ρ) e)) z
holds ρ w n e z t p h = record { bits_of = ap (of_z w) (reads ρ e t ∙ p); size = h }
