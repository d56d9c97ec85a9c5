-- What a block that is handed over by value, an array of arrays, tells of its entries: each fits, past the ends too, where it is 0; and the block
-- is the list of its entries. Assumes nothing.
-- ---- laws of numbers and lists
use mathlib.Core.Path.{◌≡◌, refl}
use mathlib.Core.List.{List, [], ◌∷◌}
use Prim.Native.Nat.{ℕ, zero, suc, ◌*◌, ◌<◌, ◌^◌, ◌≤◌}
use native.Mathlib.Nat.{not-suc-le-zero, le_of_suc-le-suc, mul-le-mul}
use native.Mathlib.Omega.{arith}
use lib.ListN.{length, get_or}
use lib.IntN.{ℤ, pos, nat_abs}
use lib.Signed.{mag}
use lib.Pow.{pow_pos}
use mir.Syntax.{Width}
use mir.Val.{Val, SFits, hbits}
use denote.Array.{Array, each, in_array}
use denote.Shadow.{shadow}
use denote.Signed.{SInt}
use Rattle.integers.specs.Lists.{tab}
use Rattle.integers.proofs.Bits.{each-sfits}
use Rattle.integers.proofs.Bound.{within-sfits}
use Rattle.integers.proofs.Written.{is-tab}

-- blocks and lines of sides up to 8 fit memory, as the type of a borrowed one asks
pub block-small : {n : ℕ} → n ≤ 8 → n * (n * 4) < 9223372036854775808
block-small {n} h = let p : n * 4 ≤ 32 = omega arith in omega (arith, mul-le-mul h p)

pub line-small : {n : ℕ} → n ≤ 8 → n * 4 < 9223372036854775808
line-small h = omega arith

module _ (w : Width) (n : ℕ) where
  entries_fit : (m : List (List ℤ)) (us : List Val) (j i : ℕ) → shadow (each (List ℤ) (Array (SInt w) n).own_val m us) → mag (get_or (get_or m j []) i (pos 0)) < 2 ^ hbits w
  entries_fit [] us j i p = pow_pos (hbits w)
  entries_fit (x ∷ m) [] j i p = absurd p
  entries_fit (x ∷ m) (u ∷ us) zero i p = each-sfits w x p.0.0 i p.0.1.1
  entries_fit (x ∷ m) (u ∷ us) (suc j) i p = entries_fit m us j i p.1

  -- as a parameter gives it (`c.good.0`)
  pub entry-fits : (k : ℕ) (m : List (List ℤ)) (vs : List Val) → shadow (in_array (List ℤ) (Array (SInt w) n).own_val k m vs) → (j i : ℕ) → SFits w (get_or (get_or m j []) i (pos 0))
  entry-fits k m vs g j i = record { sfits = entries_fit m g.0 j i g.1.1 }

  pub entry-within : (k : ℕ) (m : List (List ℤ)) (vs : List Val) → shadow (in_array (List ℤ) (Array (SInt w) n).own_val k m vs) → (j i : ℕ) → nat_abs (get_or (get_or m j []) i (pos 0)) ≤ 2 ^ hbits w
  entry-within k m vs g j i = (within-sfits (entry-fits k m vs g j i)).bound

  rows_long : (m : List (List ℤ)) (us : List Val) (j : ℕ) → shadow (each (List ℤ) (Array (SInt w) n).own_val m us) → j < length m → length (get_or m j []) ≡ n
  rows_long [] us j p h = absurd (not-suc-le-zero h)
  rows_long (x ∷ m) [] j p h = absurd p
  rows_long (x ∷ m) (u ∷ us) zero p h = p.0.1.0.1
  rows_long (x ∷ m) (u ∷ us) (suc j) p h = rows_long m us j p.1 (le_of_suc-le-suc h)

  pub is_block : (k : ℕ) (m : List (List ℤ)) (vs : List Val) → shadow (in_array (List ℤ) (Array (SInt w) n).own_val k m vs) → m ≡ tab k (λ j. tab n (λ i. get_or (get_or m j []) i (pos 0)))
  is_block k m vs g =
      is-tab k (λ j. tab n (λ i. get_or (get_or m j []) i (pos 0))) m [] g.1.0.1
      (λ j h. is-tab n (λ i. get_or (get_or m j []) i (pos 0)) (get_or m j []) (pos 0) (rows_long m g.0 j g.1.1 (rw g.1.0.1 h)) (λ i q. refl))
