-- From the machine's reading of a signed number's bits to the number: what is stored and read back, what an array's elements are, what a
-- signed test that held or failed says, and the value of `1 << k`;
-- then when `n >> k` is 0. Assumes nothing.
use mathlib.Core.Path.{◌≡◌, sym, subst}
use mathlib.Core.Bool.{Bool, true, false, not}
use mathlib.Core.List.{List, [], ◌∷◌}
use Prim.Native.Nat.{ℕ, zero, suc, ◌*◌, ◌/◌, ◌^◌, ◌%◌, ◌≤◌, ◌<◌}
use native.Mathlib.Nat.{mod-eq_of_lt, div-eq_of_lt, div-lt_iff_lt-mul}
use native.Mathlib.Decide.{dec_lt}
use native.Mathlib.Omega.{arith}
use lib.Dec.{T}
use lib.IntN.{ℤ, pos}
use lib.ListN.{get_or}
use lib.Pow.{pow-lt, pow_pos}
use lib.Signed.{◌≤ℤ◌, ◌<ℤ◌, mag, lt_z, lt_z_yes, lt_z_no}
use mir.Syntax.{Width}
use mir.Val.{Val, to_z, of_z, bits, hbits}
use mir.Facts.{to_z-of_z}
use denote.Array.{each}
use denote.Shadow.{shadow}
use denote.Signed.{SInt}

-- a number that fits is read back from its bits. All arguments are explicit: antt finds no number that stands only under `mag`
pub back : (w : Width) (z : ℤ) → mag z < 2 ^ hbits w → to_z w (of_z w z) ≡ z
back w z h = to_z-of_z (record { sfits = h })

-- what owning an array of signed integers tells of its list: each element fits, past the end too, where it is 0
pub each-sfits : (w : Width) (xs : List ℤ) (us : List Val) (i : ℕ) → shadow (each ℤ (SInt w).own_val xs us) → mag (get_or xs i (pos 0)) < 2 ^ hbits w
each-sfits w [] us i p = pow_pos (hbits w)
each-sfits w (x ∷ xs) [] i p = absurd p
each-sfits w (x ∷ xs) (u ∷ us) zero p = p.0.1
each-sfits w (x ∷ xs) (u ∷ us) (suc i) p = each-sfits w xs us i p.1

passed : {b : Bool} → b ≡ true → T b
passed e = subst T (sym e) tt

failed : {b : Bool} → b ≡ false → T (not b)
failed e = subst (λ (t : Bool). T (not t)) (sym e) tt

-- a signed test that held or failed, as a branch leaves it
pub lt-held : (x y : ℤ) → lt_z x y ≡ true → x <ℤ y
lt-held x y e = lt_z_yes (passed e)

pub lt-failed : (x y : ℤ) → lt_z x y ≡ false → y ≤ℤ x
lt-failed x y e = lt_z_no (failed e)

-- `1 << k` below the width is 2^k
pub one_shl : (w : Width) (k : ℕ) → k < bits w → (1 * 2 ^ k) % 2 ^ bits w ≡ 2 ^ k
one_shl w k h = let e : 1 * 2 ^ k ≡ 2 ^ k = omega arith in rw e (mod-eq_of_lt (pow-lt h))

-- a shift to the right leaves something exactly where the number reaches the power
pub div-some : (n k : ℕ) → (n / 2 ^ k ≡ 0 → ⊥) → 2 ^ k ≤ n
div-some n k h = go (dec_lt n (2 ^ k))
  where
    go : Dec (n < 2 ^ k) → 2 ^ k ≤ n
    go (yes p) = absurd (h (div-eq_of_lt p))
    go (no p) = omega arith

pub div-none : (n k : ℕ) → n / 2 ^ k ≡ 0 → n < 2 ^ k
div-none n k e = let h : n / 2 ^ k < 1 = omega arith in omega (arith, (div-lt_iff_lt-mul (pow_pos k)).0 h)
