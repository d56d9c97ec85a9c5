-- Laws of a pair: the two tests of `meet` say whether two areas share a sample, since areas are runs; the lowest position that two share is the later
-- start; a pair of components by the jobs that passed. Assumes nothing.
use Prim.Native.Nat.{ℕ, zero, suc, ◌+◌, ◌-◌, ◌≤◌, ◌<◌, min, max}
use native.Mathlib.Omega.{arith}
use lib.Pow.{pow_pos}
use mathlib.Core.Path.{◌≡◌, refl, sym, ap, ◌∙◌}
use mathlib.Core.Logic.{◌⊎◌, inl, inr, ⊎_elim}
use mathlib.Core.Bool.{Bool, true, false, false≢true}
use mathlib.Core.List.{List, [], ◌∷◌}
use lib.Dec.{ltb}
use borrow.Author.Tests.{ltb-true, ltb-false}
use Rattle.std.specs.Prelude.{Option, Some, None, option_map}
use Rattle.order.specs.Positions.{row, shared}
use Rattle.order.proofs.Rows.{shared-row, shared-row-none}
use Rattle.evc.specs.declared.Job.{Job}
use Rattle.evc.specs.declared.Part.{Part}
use Rattle.evc.specs.declared.Component.{Component}
use Rattle.evc.specs.Tests.{samples_of}
use Rattle.evc.specs.Reports.{named, report}
use Rattle.evc.specs.Jobs.{area}
use Rattle.evc.specs.SubBlocks.{is_some, lowest, overlap, both}
use Rattle.job_tests.specs.Pairs.{pair}
use Rattle.job_tests.proofs.Areas.{area-run}

some_or_none : (l : List ℕ) → (l ≡ [] → ⊥) → is_some l ≡ true
some_or_none [] h = absurd (h refl)
some_or_none (p ∷ l) h = refl

-- a test that fails exactly where one run ends before the other begins
module _ (a m b k : ℕ) (u : 1 ≤ m) (v : 1 ≤ k) where
  meets-as : (t : Bool) → (t ≡ true → (a + m ≤ b) ⊎ (b + k ≤ a) → ⊥) → (t ≡ false → (a + m ≤ b) ⊎ (b + k ≤ a)) → t ≡ is_some (shared (row a m) (row b k))
  meets-as true f g = sym (some_or_none (shared (row a m) (row b k)) (λ e. f refl ((shared-row-none a m b k u v).0 e)))
  meets-as false f g = sym (ap is_some ((shared-row-none a m b k u v).1 (g refl)))

  first-lower : a < b → ltb (b - a) m ≡ is_some (shared (row a m) (row b k))
  first-lower h =
      meets-as (ltb (b - a) m)
      (λ t. let l = ltb-true (b - a) m t in ⊎_elim (λ q. omega arith) (λ q. omega arith))
      (λ t. let l = ltb-false (b - a) m t in inl (omega arith))

  second-lower : b ≤ a → ltb (a - b) k ≡ is_some (shared (row a m) (row b k))
  second-lower h =
      meets-as (ltb (a - b) k)
      (λ t. let l = ltb-true (a - b) k t in ⊎_elim (λ q. omega arith) (λ q. omega arith))
      (λ t. let l = ltb-false (a - b) k t in inr (omega arith))

-- the same of two jobs; m is a job's size, as the code has it
module _ (j k : Job) where
  pub first-meets : (m : ℕ) → m ≡ samples_of j.log2_w j.log2_h → j.start < k.start → ltb (k.start - j.start) m ≡ is_some (shared (area j) (area k))
  first-meets m e h = rw (area-run j, area-run k, e) (first-lower j.start (samples_of j.log2_w j.log2_h) k.start (samples_of k.log2_w k.log2_h) (pow_pos _) (pow_pos _) h)

  pub second-meets : (m : ℕ) → m ≡ samples_of k.log2_w k.log2_h → k.start ≤ j.start → ltb (j.start - k.start) m ≡ is_some (shared (area j) (area k))
  second-meets m e h = rw (area-run j, area-run k, e) (second-lower j.start (samples_of j.log2_w j.log2_h) k.start (samples_of k.log2_w k.log2_h) (pow_pos _) (pow_pos _) h)

-- ---- the lowest position that two areas share
lowest-run : (s n : ℕ) (l : List ℕ) → l ≡ row s n → is_some l ≡ true → s ≡ lowest l
lowest-run s zero l q e = absurd (false≢true (sym (ap is_some q) ∙ e))
lowest-run s (suc n) l q e = sym (ap lowest q)

pub lowest-shared : (j k : Job) → is_some (shared (area j) (area k)) ≡ true → max j.start k.start ≡ lowest (shared (area j) (area k))
lowest-shared j k e =
    let m = samples_of j.log2_w j.log2_h in
    let n = samples_of k.log2_w k.log2_h in
    let run = rw (← area-run j, ← area-run k) at (shared-row j.start m k.start n) in
    lowest-run (max j.start k.start) (min (j.start + m) (k.start + n) - max j.start k.start) (shared (area j) (area k)) run e

-- ---- a pair of components that have passed is the call's
module _ (f g : Part → Job) where
  both-pair : (a b : Option Part) → pair (option_map f a) (option_map g b) ≡ both a b (λ c d. overlap (f c) (g d) ∷ [])
  both-pair (Some c) (Some d) = refl
  both-pair (Some c) None = refl
  both-pair None b = refl

  pub pair-report : (who : Component) {o p : Option Job} (a b : Option Part) → o ≡ option_map f a → p ≡ option_map g b
      → report (named who (pair o p)) ≡ report (named who (both a b (λ c d. overlap (f c) (g d) ∷ [])))
  pair-report who a b q r = rw (q, r, both-pair a b)
