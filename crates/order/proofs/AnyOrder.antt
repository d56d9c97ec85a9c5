-- Jobs of which no two accepted ones share a sample may be done in any order: the buffer ends the same, and each job answers as it does alone.
-- The way: such jobs leave a buffer that `Ended` describes, `Ended` does not go by the order of its jobs, and it describes one buffer only.
use mathlib.Core.Path.{◌≡◌, refl, sym, ◌∙◌}
use mathlib.Core.Logic.{⊎_elim, ∥∥₁_elim}
use mathlib.Core.Bool.{Bool-set}
use mathlib.Core.List.Perm
use mathlib.Core.List.{List, map, is_set, Perm}
use lib.ListN.{length}
use lib.Seq.{ext_get_or}
use Rattle.order.specs.Jobs.{Kind, Lawful, jobs, answers, owns, Separate, Ended}
use Rattle.order.proofs.Positions.{gather-at}
use Rattle.order.proofs.OneJob.{owns-accepted, apart-prop, apart-sym}
use Rattle.order.proofs.Steps.{owner, length-jobs, jobs-outside, jobs-done, answers-jobs}

-- what holds of the jobs js on the buffer b when they are done in the order ks
pub record AnyOrder {A J : Type 0} (w : Kind A J) (b : List A) (js ks : List J) : Type 0 where
  -- the order ks leaves the buffer that the order js leaves
  pub buffer : jobs w ks b ≡ jobs w js b
  -- each accepted job's area holds its block's work on the area's first contents, and every other sample is unchanged
  pub ended : Ended w b js (jobs w ks b)
  -- each job answers as it does alone on the first contents
  pub answer : answers w ks b ≡ map (w.number (length b)) ks

-- `Ended` leaves no choice: each sample is of an accepted job, whose work is known, or of none, and unchanged
pub ended-one : {A J : Type 0} {w : Kind A J} {b : List A} {js : List J} {c c' : List A} → Ended w b js c → Ended w b js c' → c ≡ c'
ended-one {w} {b} {js} {c} {c'} s t =
    ext_get_or w.blank c c' (s.long ∙ sym t.long) (λ p _.
    ⊎_elim
    (λ o. let a = owns-accepted w (length b) o.0 p o.2 in
    gather-at w.blank c c' (w.area o.0) (s.done o.0 o.1 a.0 ∙ sym (t.done o.0 o.1 a.0)) p a.1)
    (λ h. s.rest p h ∙ sym (t.rest p h))
    (owner (owns w (length b)) js p))

-- it does not go by the order of the jobs
pub ended-order : {A J : Type 0} {w : Kind A J} → IsSet A → {b : List A} {js ks : List J} {c : List A} → Perm js ks → Ended w b ks c → Ended w b js c
ended-order {w} set {b} {js} {ks} {c} s t =
    record {
      long = t.long;
      done = λ j m z. ∥∥₁_elim ((Perm.mem_iff s).0 ∣ m ∣₁) (is_set set _ _) (λ m'. t.done j m' z);
      rest = λ p h. t.rest p (λ j m. ∥∥₁_elim ((Perm.mem_iff s).1 ∣ m ∣₁) (Bool-set _ _) (h j));
    }

-- each job answers as it does alone on the first contents, also where jobs share samples
pub answers-alone : {A J : Type 0} (w : Kind A J) (b : List A) (js : List J) → answers w js b ≡ map (w.number (length b)) js
answers-alone w b js = answers-jobs w (length b) js b refl

module _ {A J : Type 0} {w : Kind A J} (l : Lawful w) where
  -- separate jobs end as `Ended` says
  pub separate-ended : (b : List A) (js : List J) → Separate w (length b) js → Ended w b js (jobs w js b)
  separate-ended b js s =
      record {
        long = length-jobs w (length b) js b refl;
        done = jobs-done w (length b) l js s b refl;
        rest = jobs-outside w (length b) js b refl;
      }

  -- any rearrangement of separate jobs
  pub any_order : (b : List A) (js ks : List J) → Perm js ks → Separate w (length b) js → AnyOrder w b js ks
  any_order b js ks p s = record { buffer = ended-one end (separate-ended b js s); ended = end; answer = answers-alone w b ks }
    where
      end : Ended w b js (jobs w ks b)
      end = ended-order l.aset p (separate-ended b ks (Perm.pairwise (apart-prop w (length b)) (apart-sym w (length b)) p s))
