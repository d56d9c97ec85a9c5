-- What the helpers' steps give: terms added one by one, a place and its mirror written, a level begun and ended. Assumes nothing.
use mathlib.Core.Path.{◌≡◌, refl, sym, ap, ap₂, ◌∙◌, subst}
use mathlib.Core.List.{List}
use Prim.Native.Nat.{ℕ, zero, suc, ◌+◌, ◌*◌, ◌-◌, ◌/◌, ◌<◌, ◌≤◌}
use native.Mathlib.Omega.{arith}
use native.Mathlib.Nat.{zero-add, mul-le-mul_right, le_trans, not-suc-le-zero}
use native.Mathlib.Decide.{ℕ_discrete}
use native.Mathlib.Numerals.{add-one}
use lib.ListN.{length, get_or, set, length-set}
use lib.Seq.{get_or-set_same, get_or-set_other}
use lib.IntN.{ℤ, pos, ◌+ℤ◌, ◌-ℤ◌, ◌*ℤ◌, nat_abs}
use Rattle.integers.specs.Sum.{addition_z+}
use Rattle.integers.proofs.Bound.{Within, within-mono}
use Rattle.integers.proofs.Sum.{sum-none, sum_step, sum-ext}
use Rattle.integers.proofs.Loop.{Filled, filled-start, filled-step}
use Rattle.itx_table.specs.Flat.{flat}
use Rattle.itx_table.specs.Mirror.{Mirrored}
use Rattle.itx_halving.specs.Line.{line, dot, odd, Part}
use Rattle.itx_halving.proofs.Bounds.{odd_number}
use Rattle.itx_halving.proofs.Step.{none, all, more, two}
use Rattle.itx_halving.proofs.Instance.{built-in-table}
use Rattle.itx_lanes.specs.Steps.{
  lane_list,
  flat_entry,
  half,
  Narrow,
  Rows,
  Input,
  Picks,
  terms,
  Terms,
  Halving,
  OfLane,
  Given,
  Ready,
  Halves,
  crossed,
  Kept,
  Moved,
  Stepped,
}
use Rattle.itx_lanes.proofs.AsLine.{lane-length, lane-at, lane-set, kept_set, kept_then}
use Rattle.itx_lanes.proofs.Bounds.{dot-within, terms-within, most, stride, finer}

-- ---- terms of the odd half
pub terms-none : (x : List ℤ) (q n : ℕ) → pos 0 ≡ terms x q 0 n
unfolding terms
terms-none x q n = sym (sum-none addition_z+ _)

-- one more, at the code's place of the table
pub terms-more :
    (t x : List ℤ) (z : ℤ) (q k n : ℕ) →
    t ≡ flat →
    z ≡ terms x q k n →
    z +ℤ get_or t ((2 * k + 1) * q * 64 + n) (pos 0) *ℤ get_or x k (pos 0) ≡ terms x q (k + 1) n
unfolding terms
terms-more t x z q k n e h = rw (e, h, odd_number k, add-one k) (sym (sum_step addition_z+ k _))

-- picked inputs are the lane's
pub terms-half : {x s : List ℤ} {q m j : ℕ} (n : ℕ) → Picks x s q m j → terms x q m n ≡ half s j q m n
unfolding terms odd
terms-half {q = q} {m = m} n p = sum-ext addition_z+ m _ _ (λ i h. ap (λ (y : ℤ). flat_entry (suc (i + i) * q) n *ℤ y) (p.at i h).is)

-- fewer rows
pub fewer : {q m : ℕ} (k : ℕ) → Rows q m → k ≤ m → Rows q k
fewer {q} {m} k w h = record { some = w.some; rows = le_trans (mul-le-mul_right {m = k + k} {n = m + m} q (omega arith)) w.rows }

-- ---- inputs picked one by one: the first k
pub record Picking (s : List ℤ) (q m j : ℕ) (x : List ℤ) (k : ℕ) : Type 0 where
  pub filled : Filled ℤ (pos 0) m (λ i. line (lane_list s j) (suc (i + i) * q)) x k
  pub small : (i : ℕ) → i < k → nat_abs (line (lane_list s j) (suc (i + i) * q)) ≤ 32768

module _ {s x : List ℤ} {q m j : ℕ} where
  pub picking-none : length x ≡ m → Picking s q m j x 0
  picking-none e = record { filled = filled-start e; small = λ i h. absurd (not-suc-le-zero h) }

  pub picking-more : {k : ℕ} {v r : ℤ} → Picking s q m j x k → k < m → v ≡ r → Input s (suc (k + k) * q) j r → Picking s q m j (set x k v) (k + 1)
  picking-more {k} p h e n = record { filled = filled-step p.filled h (e ∙ n.is); small = λ i l. by i l (ℕ_discrete i k) }
    where
      by : (i : ℕ) → i < k + 1 → Dec (i ≡ k) → nat_abs (line (lane_list s j) (suc (i + i) * q)) ≤ 32768
      by i l (yes w) = rw (w, ← n.is) n.small
      by i l (no f) = p.small i (omega arith)

  pub picking-all : {k : ℕ} → Picking s q m j x k → m ≤ k → Picks x s q m j
  picking-all p h =
      record {
        long = p.filled.long;
        at = λ i l. let e = p.filled.done i (le_trans l h) in record { is = e; small = rw e (p.small i (le_trans l h)) };
      }

-- ---- a place and its mirror
module _ {s e : List ℤ} {m n j : ℕ} (r : OfLane s e m n j) (place : n < m) where
  abbrev g : Halving e m
  g = r.level

  abbrev q : ℕ
  q = 32 / m

  some : 0 < q
  some = stride m q g.whole

  size-most : m ≤ 32
  size-most = most q m some (omega (arith, g.whole))

  -- what the buffer holds at the place, and how large it is
  even_is : get_or e (n * 16 + j) (pos 0) ≡ dot flat_entry (q + q) m n (line (lane_list s j))
  even_is = sym (lane-at e j n (omega (arith, size-most))) ∙ r.part.rest n (omega arith) place

  pub halves : {z : ℤ} → Within 94371840 z → Halves e m n j z
  halves {z} h =
      let w = within-mono {n = 94371840} (omega (arith, size-most)) (dot-within r.narrow (omega (arith, some)) m n (omega (arith, g.whole)) (omega (arith, size-most))) in
      record {
        size = size-most;
        room = g.room;
        place = place;
        among = r.among;
        even = subst (λ (v : ℤ). nat_abs v ≤ 94371840) (sym even_is) w.bound;
        odd = h.bound;
      }

  module _ {z : ℤ} (z-is : z ≡ half s j q m n) where
    abbrev a : ℤ
    a = get_or e (n * 16 + j) (pos 0) +ℤ z

    abbrev b : ℤ
    b = get_or e (n * 16 + j) (pos 0) -ℤ z

    abbrev low : List ℤ
    low = set e (n * 16 + j) a

    abbrev both : List ℤ
    both = set low ((2 * m - 1 - n) * 16 + j) b

    low-room : n * 16 + j < length e
    low-room = omega (arith, r.among, g.room)

    high-room : (2 * m - 1 - n) * 16 + j < length low
    high-room = omega (arith, r.among, g.room, length-set e (n * 16 + j) a)

    low-row : n < 64
    low-row = omega (arith, size-most)

    high-row : 2 * m - 1 - n < 64
    high-row = omega (arith, size-most)

    longer : length both ≡ length e
    longer = length-set low ((2 * m - 1 - n) * 16 + j) b ∙ length-set e (n * 16 + j) a

    lane-is : lane_list both j ≡ set (set (lane_list e j) n a) (m + m - suc n) b
    lane-is =
        let i : 2 * m - 1 - n ≡ m + m - suc n = omega arith in
        lane-set low j (2 * m - 1 - n) b r.among high-row high-room
        ∙ ap₂ (λ (l : List ℤ) (k : ℕ). set l k b) (lane-set e j n a r.among low-row low-room) i

    -- the table as the halving has it
    mirror : Mirrored ((m + m) * q) flat_entry
    mirror = subst (λ (N : ℕ). Mirrored N flat_entry) (sym g.whole) (built-in-table 6 (omega arith) flat refl).mirrored

    pub moved : Moved e s (crossed e m n j z) m (n + 1) j
    unfolding crossed
    moved =
        record {
          lane =
              record {
                level = record { whole = g.whole; size = g.size; room = omega (arith, g.room, longer) };
                among = r.among;
                narrow = r.narrow;
                part =
                    subst (λ (l : List ℤ). Part l flat_entry q m (n + 1) (lane_list s j)) (sym lane-is)
                    (more mirror g.size some n place r.part a b (ap₂ ◌+ℤ◌ even_is z-is) (ap₂ ◌-ℤ◌ even_is z-is));
              };
          kept =
              kept_then (kept_set e j n a r.among low-row low-room) (kept_set low j (2 * m - 1 - n) b r.among high-row high-room);
        }

-- ---- the places from a on, whatever block the inputs were picked from
module _ {t x e : List ℤ} {m n j : ℕ} (r : Ready t x e m n j) where
  pub terms-of : (k : ℕ) → k < m → Terms t x (32 / m) k
  terms-of k h =
      let l = r.given.lane.level in
      let p = r.given.picks in
      let q = stride m (32 / m) l.whole in
      let u : m ≤ 32 = most (32 / m) m q (omega (arith, l.whole)) in
      record {
        table = r.table;
        rows = record { some = q; rows = rw p.long (omega (arith, l.whole)) };
        column = omega arith;
        small = λ i v. (p.at i (omega (arith, p.long))).small;
      }

  pub odd-small : {z : ℤ} (k : ℕ) → k < m → z ≡ terms x (32 / m) m k → Within 94371840 z
  odd-small {z} k h e = subst (Within 94371840) (sym e) (terms-within (terms-of k h) m (omega (arith, r.given.picks.long)))

  pub stepped : {e' : List ℤ} {b : ℕ} → ((s : List ℤ) → Given s x e m n j → Moved e s e' m b j) → Stepped t x e e' m n b j
  stepped f =
      record {
        ready = record { table = r.table; block = r.block; given = record { lane = (f r.block r.given).lane; picks = r.given.picks } };
        done = f;
      }

pub moved_more : {x e₀ s e e' : List ℤ} {z : ℤ} {m n j : ℕ} → Moved e₀ s e m n j → Picks x s (32 / m) m j → n < m → z ≡ terms x (32 / m) m n → e' ≡ crossed e m n j z → Moved e₀ s e' m (n + 1) j
moved_more {e₀ = e₀} {s = s} {m = m} {n = n} {j = j} v p h ez ee =
    let w = moved v.lane h (ez ∙ terms-half n p) in
    subst (λ (l : List ℤ). Moved e₀ s l m (n + 1) j) (sym ee) (record { lane = w.lane; kept = kept_then v.kept w.kept })

pub then : {t x e₀ e e' : List ℤ} {m a b c j : ℕ} → Stepped t x e₀ e m a b j → Stepped t x e e' m b c j → Stepped t x e₀ e' m a c j
then h k =
    record {
      ready = k.ready;
      done = λ s g.
          let v = h.done s g in
          let w = k.done s (record { lane = v.lane; picks = g.picks }) in
          record { lane = w.lane; kept = kept_then v.kept w.kept };
    }

-- ---- where the halving starts: the product of size 2
pub two-terms :
    (t s : List ℤ) (n j : ℕ) →
    t ≡ flat →
    get_or t n (pos 0) *ℤ get_or s j (pos 0) +ℤ get_or t (2048 + n) (pos 0) *ℤ get_or s (512 + j) (pos 0) ≡ dot flat_entry 32 2 n (line (lane_list s j))
two-terms t s n j e =
    rw e
    (sym (two flat_entry 32 n (line (lane_list s j))
    ∙ ap₂ ◌+ℤ◌
    (ap₂ ◌*ℤ◌ (ap (λ (i : ℕ). get_or flat i (pos 0)) (zero-add n)) (lane-at s j 0 (omega arith) ∙ ap (λ (i : ℕ). get_or s i (pos 0)) (zero-add j)))
    (ap (λ (y : ℤ). flat_entry 32 n *ℤ y) (lane-at s j 32 (omega arith)))))

-- its inputs are those in the rows 0 and 32
pub two-narrow : {s : List ℤ} {j : ℕ} → nat_abs (get_or s j (pos 0)) ≤ 32768 → nat_abs (get_or s (512 + j) (pos 0)) ≤ 32768 → Narrow s 32 j
two-narrow {s} {j} a b = record { small = small }
  where
    small : (k : ℕ) → k * 32 < 64 → nat_abs (line (lane_list s j) (k * 32)) ≤ 32768
    small zero h = rw (lane-at s j 0 (omega arith), zero-add j) a
    small (suc zero) h = rw (lane-at s j 32 (omega arith)) b
    small (suc (suc k)) h = let z : ⊥ = omega arith in absurd z

module _ (s e : List ℤ) (j : ℕ) (g : Narrow s 32 j) (long : 256 ≤ length e) (hj : j < 16) (a b : ℤ) where
  abbrev pair : List ℤ
  pair = set (set e j a) (16 + j) b

  pair-lane : lane_list pair j ≡ set (set (lane_list e j) 0 a) 1 b
  pair-lane =
      let z : 0 * 16 + j ≡ j = omega arith in
      lane-set (set e j a) j 1 b hj (omega arith) (omega (arith, length-set e j a))
      ∙ ap (λ (l : List ℤ). set l 1 b) (rw z at (lane-set e j 0 a hj (omega arith) (omega arith)))

  pair-kept : Kept e pair j
  pair-kept =
      let z : 0 * 16 + j ≡ j = omega arith in
      kept_then (rw z at (kept_set e j 0 a hj (omega arith) (omega arith))) (kept_set (set e j a) j 1 b hj (omega arith) (omega (arith, length-set e j a)))

  pub begun : a ≡ dot flat_entry 32 2 0 (line (lane_list s j)) → b ≡ dot flat_entry 32 2 1 (line (lane_list s j)) → Moved e s pair 2 0 j
  begun ea eb =
      record {
        lane =
            record {
              level = record { whole = refl; size = omega arith; room = omega (arith, pair-kept.long) };
              among = hj;
              narrow = g;
              part = none (record { long = lane-length pair j; at = λ n h. at n h });
            };
        kept = pair-kept;
      }
    where
      at : (n : ℕ) → n < 2 → get_or (lane_list pair j) n (pos 0) ≡ dot flat_entry 32 2 n (line (lane_list s j))
      at zero h = rw pair-lane (get_or-set_other (set (lane_list e j) 0 a) 1 0 b (pos 0) (λ r. omega arith) ∙ get_or-set_same (lane_list e j) 0 a (pos 0) (omega (arith, lane-length e j)) ∙ ea)
      at (suc zero) h = rw pair-lane (get_or-set_same (set (lane_list e j) 0 a) 1 b (pos 0) (omega (arith, lane-length e j, length-set (lane_list e j) 0 a)) ∙ eb)
      at (suc (suc n)) h = let z : ⊥ = omega arith in absurd z

-- from size 2 to size 4
pub size-four : {t x s e₀ e : List ℤ} {j : ℕ} → OfLane s e₀ 2 0 j → Picks x s 16 2 j → Stepped t x e₀ e 2 0 2 j → 256 ≤ length e₀ → Moved e₀ s e 4 0 j
size-four {s = s} v p k h =
    let w = k.done s (record { lane = v; picks = p }) in
    record {
      lane =
          record {
            level = record { whole = refl; size = omega arith; room = omega (arith, w.kept.long) };
            among = v.among;
            narrow = finer p refl w.lane.narrow;
            part = none (all w.lane.part);
          };
      kept = w.kept;
    }
