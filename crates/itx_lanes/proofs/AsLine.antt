-- A lane of a block as a line of 64 numbers: what it holds, and what a store into the block leaves of each lane. Assumes nothing.
use mathlib.Core.Path.{◌≡◌, refl, sym, ap, ◌∙◌}
use mathlib.Core.List.{List}
use Prim.Native.Nat.{ℕ, ◌+◌, ◌*◌, ◌<◌}
use native.Mathlib.Omega.{arith}
use native.Mathlib.Decide.{ℕ_discrete}
use lib.ListN.{length, get_or, set, length-set}
use lib.Seq.{get_or-set_same, get_or-set_other}
use lib.IntN.{ℤ, pos}
use Rattle.integers.proofs.Written.{tab-length, tab-at, tab-ext, is-tab}
use Rattle.itx_halving.specs.Line.{line}
use Rattle.itx_lanes.specs.Lanes.{lane}
use Rattle.itx_lanes.specs.Steps.{lane_list, Kept}

pub lane-length : (e : List ℤ) (j : ℕ) → length (lane_list e j) ≡ 64
unfolding lane_list
lane-length e j = tab-length 64 (lane e j)

pub lane-at : (e : List ℤ) (j k : ℕ) → k < 64 → line (lane_list e j) k ≡ lane e j k
unfolding lane_list
lane-at e j k h = tab-at 64 (lane e j) k (pos 0) h

-- a store into the lane
module _ (e : List ℤ) (j k : ℕ) (v : ℤ) (hj : j < 16) (hk : k < 64) (room : k * 16 + j < length e) where
  pub lane-set : lane_list (set e (k * 16 + j) v) j ≡ set (lane_list e j) k v
  unfolding lane_list
  lane-set = sym (is-tab 64 (lane (set e (k * 16 + j) v) j) (set (lane_list e j) k v) (pos 0) (length-set (lane_list e j) k v ∙ lane-length e j) (λ i h. go i h (ℕ_discrete i k)))
    where
      go : (i : ℕ) → i < 64 → Dec (i ≡ k) → get_or (set (lane_list e j) k v) i (pos 0) ≡ lane (set e (k * 16 + j) v) j i
      go i h (yes r) =
          ap (λ (x : ℕ). get_or (set (lane_list e j) k v) x (pos 0)) r
          ∙ get_or-set_same (lane_list e j) k v (pos 0) (omega (arith, lane-length e j))
          ∙ sym (ap (λ (x : ℕ). lane (set e (k * 16 + j) v) j x) r ∙ get_or-set_same e (k * 16 + j) v (pos 0) room)
      go i h (no f) =
          get_or-set_other (lane_list e j) k i v (pos 0) f ∙ lane-at e j i h
          ∙ sym (get_or-set_other e (k * 16 + j) (i * 16 + j) v (pos 0) (λ r. f (omega arith)))

  -- leaves the others as they were
  pub kept_set : Kept e (set e (k * 16 + j) v) j
  unfolding lane_list
  kept_set = record {
    long = length-set e (k * 16 + j) v;
    other =
        λ i h f. tab-ext 64 (lane (set e (k * 16 + j) v) i) (lane e i) (λ r p. get_or-set_other e (k * 16 + j) (r * 16 + i) v (pos 0) (λ q. f (omega arith)));
  }

pub kept_then : {a b c : List ℤ} {j : ℕ} → Kept a b j → Kept b c j → Kept a c j
kept_then h k = record { long = k.long ∙ h.long; other = λ i p f. k.other i p f ∙ h.other i p f }

pub kept-none : {a : List ℤ} {j : ℕ} → Kept a a j
kept-none = record { long = refl; other = λ i p f. refl }
