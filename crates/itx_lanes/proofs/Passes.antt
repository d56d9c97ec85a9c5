-- A pass over the 16 lanes: the lanes before j have R, the others still have Q, both of a lane as a line. Then a level's start and end, and
-- the sums that the last level leaves. Assumes nothing.
use mathlib.Core.Path.{◌≡◌, refl, sym, ap, ap₂, ◌∙◌, subst}
use mathlib.Core.List.{List}
use Prim.Native.Nat.{ℕ, ◌+◌, ◌*◌, ◌/◌, ◌%◌, ◌<◌, ◌≤◌}
use native.Mathlib.Omega.{arith}
use native.Mathlib.Nat.{not-suc-le-zero}
use native.Mathlib.Decide.{ℕ_discrete}
use lib.ListN.{length, get_or}
use lib.IntN.{ℤ, pos, ◌*ℤ◌}
use Rattle.integers.specs.Sum.{addition_z+}
use Rattle.integers.specs.Lists.{tab}
use Rattle.integers.proofs.Sum.{sum-ext}
use Rattle.integers.proofs.Written.{is-tab}
use Rattle.evc.specs.Table.{tm64}
use Rattle.itx_table.proofs.Rule.{entry}
use Rattle.itx_halving.specs.Line.{line, dot, Sums, Part}
use Rattle.itx_halving.proofs.Bounds.{multiple}
use Rattle.itx_halving.proofs.Step.{none, all}
use Rattle.itx_lanes.specs.Lanes.{lane, lane_sum}
use Rattle.itx_lanes.specs.Steps.{lane_list, flat_entry, Narrow, Picks, Halving, Kept, OfLane, Stepped, All, Sized}
use Rattle.itx_lanes.proofs.AsLine.{lane-at}
use Rattle.itx_lanes.proofs.Bounds.{finer, coarser}

pub record Passed (Q R : ℕ → List ℤ → Type 0) (e₀ e : List ℤ) (j : ℕ) : Type 0 where
  pub long : length e ≡ length e₀
  pub most : j ≤ 16
  pub done : (i : ℕ) → i < j → R i (lane_list e i)
  pub left : (i : ℕ) → j ≤ i → i < 16 → Q i (lane_list e i)

module _ {Q R : ℕ → List ℤ → Type 0} where
  pub passed_none : {e : List ℤ} → ((i : ℕ) → i < 16 → Q i (lane_list e i)) → Passed Q R e e 0
  passed_none h = record { long = refl; most = omega arith; done = λ i p. absurd (not-suc-le-zero p); left = λ i p r. h i r }

  pub passed-more : {e₀ e e' : List ℤ} {j : ℕ} → Passed Q R e₀ e j → j < 16 → Kept e e' j → R j (lane_list e' j) → Passed Q R e₀ e' (j + 1)
  passed-more {e₀} {e} {e'} {j} p h k r =
      record {
        long = k.long ∙ p.long;
        most = omega arith;
        done = λ i q. go i q (ℕ_discrete i j);
        left = λ i q l. subst (Q i) (sym (k.other i l (λ z. omega arith))) (p.left i (omega arith) l);
      }
    where
      go : (i : ℕ) → i < j + 1 → Dec (i ≡ j) → R i (lane_list e' i)
      go i q (yes z) = subst (λ (x : ℕ). R x (lane_list e' x)) (sym z) r
      go i q (no f) = subst (R i) (sym (k.other i (omega (arith, p.most)) f)) (p.done i (omega arith))

-- ---- the places from n on of every lane, on the way from size m to 2m
pub record Places (s : List ℤ) (m n r i : ℕ) (l : List ℤ) : Type 0 where
  pub part : Part l flat_entry (32 / m) m n (lane_list s i)
  pub narrow : Narrow s r i

same-level : {e₀ e : List ℤ} {m : ℕ} → Halving e₀ m → length e ≡ length e₀ → Halving e m
same-level g l = record { whole = g.whole; size = g.size; room = omega (arith, g.room) }

module _ {s e₀ e : List ℤ} {m a b j : ℕ} (g : Halving e₀ m) (p : Passed (Places s m a (32 / m + 32 / m)) (Places s m b (32 / m)) e₀ e j) where
  pub next-lane : j < 16 → OfLane s e m a j
  next-lane h = let l = p.left j (omega arith) h in record { level = same-level g p.long; among = h; narrow = l.narrow; part = l.part }

  pub passed-lane :
      {t x e' : List ℤ} →
      j < 16 →
      Picks x s (32 / m) m j →
      Stepped t x e e' m a b j →
      Passed (Places s m a (32 / m + 32 / m)) (Places s m b (32 / m)) e₀ e' (j + 1)
  passed-lane h k f =
      let v = f.done s (record { lane = next-lane h; picks = k }) in
      passed-more p h v.kept (record { part = v.lane.part; narrow = finer k g.whole v.lane.narrow })

  pub passed-all : 16 ≤ j → All s e m b (32 / m)
  passed-all h =
      record {
        level = same-level g p.long;
        part = λ i r. (p.done i (omega arith)).part;
        narrow = λ i r. (p.done i (omega arith)).narrow;
      }

-- a second pass over the lanes
pub once_more : {s e : List ℤ} {m n r : ℕ} → All s e m n r → All s e m n (r + r)
once_more g = record { level = g.level; part = g.part; narrow = λ j h. coarser (g.narrow j h) }

-- where a level begins, and where it ends
pub begun-level : {s e : List ℤ} {m : ℕ} → 64 / m ≡ 32 / m + 32 / m → Halving e m → Sized s e m → All s e m 0 (32 / m + 32 / m)
begun-level {s} {e} {m} w g h =
    record {
      level = g;
      part = λ j p. none (subst (λ (q : ℕ). Sums (lane_list e j) flat_entry q m (lane_list s j)) w (h.sums j p));
      narrow = λ j p. subst (λ (q : ℕ). Narrow s q j) w (h.narrow j p);
    }

pub ended-level : {s e : List ℤ} {m : ℕ} → 64 / (m + m) ≡ 32 / m → All s e m m (32 / m) → Sized s e (m + m)
ended-level {s} {e} {m} w g =
    record {
      sums = λ j p. subst (λ (q : ℕ). Sums (lane_list e j) flat_entry q (m + m) (lane_list s j)) (sym w) (all (g.part j p));
      narrow = λ j p. subst (λ (q : ℕ). Narrow s q j) (sym w) (g.narrow j p);
    }

-- ---- the sums of size N, where they end
module _ (N : ℕ) (whole : N * (64 / N) ≡ 64) (some : 0 < 64 / N) (most : N ≤ 64) where
  same-dot : (s : List ℤ) (n j : ℕ) → n < 64 → j < 16 → dot flat_entry (64 / N) N n (line (lane_list s j)) ≡ dot tm64 (64 / N) N n (lane s j)
  unfolding dot
  same-dot s n j hn hj =
      sum-ext addition_z+ N _ _
      (λ k h. let r = multiple k N (64 / N) 64 h some (omega arith) in ap₂ ◌*ℤ◌ (entry (k * (64 / N)) n r hn) (lane-at s j (k * (64 / N)) r))

  pub sums-are : (s e : List ℤ) → length e ≡ N * 16 → Sized s e N → e ≡ tab (N * 16) (lane_sum N s)
  unfolding lane_sum
  sums-are s e l g =
      is-tab (N * 16) (lane_sum N s) e (pos 0) l
      (λ p h.
      let r : p / 16 < N = omega arith in
      let j : p % 16 < 16 = omega arith in
      let w : p / 16 * 16 + p % 16 ≡ p = omega arith in
      ap (λ (i : ℕ). get_or e i (pos 0)) (sym w) ∙ sym (lane-at e (p % 16) (p / 16) (omega arith))
      ∙ (g.sums (p % 16) j).at (p / 16) r ∙ same-dot s (p / 16) (p % 16) (omega arith) j)

-- the same, where the number of places says the size
pub sums_by : (N : ℕ) → N * (64 / N) ≡ 64 → 0 < 64 / N → N ≤ 64 → {P : ℕ} (s e : List ℤ) → P ≡ N * 16 → length e ≡ P → Sized s e N → e ≡ tab P (lane_sum (P / 16) s)
sums_by N whole some most {P} s e p l g =
    let k : N * 16 / 16 ≡ N = omega arith in
    subst (λ (q : ℕ). e ≡ tab q (lane_sum (q / 16) s)) (sym p)
    (subst (λ (n : ℕ). e ≡ tab (N * 16) (lane_sum n s)) (sym k) (sums-are N whole some most s e (l ∙ p) g))
