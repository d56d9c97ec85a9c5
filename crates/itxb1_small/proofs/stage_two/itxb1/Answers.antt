-- `itxb1_small::stage_two::itxb1` meets its contract: an own call by its lines, and every other left alone. Assumes nothing.
use mathlib.Core.Path.{◌≡◌, refl, sym, subst, ◌∙◌}
use mathlib.Core.Bool.{Bool, true, false}
use mathlib.Core.List.{List}
use Rattle.std.proofs.Common.{inl}
use Prim.Native.Nat.{ℕ, ◌^◌}
use lib.ListN.{length}
use lib.IntN.{ℤ}
use Rattle.integers.specs.Lists.{written}
use Rattle.evc.specs.Table.{tm}
use Rattle.evc.specs.Tests.{samples_of}
use Rattle.evc.specs.Stages.{stage_two_at, stage_two_number, stage_two_exit}
use Rattle.itx_halving.specs.Lines.{StageRoom}
use Rattle.itx_halving.specs.Taken.{takes, Call, takes_two, done_two}
use Rattle.itx_halving.proofs.Lines.{amount}
use Rattle.itx_halving.proofs.Taken.{takes-accepted, call, call-rooms, two-left}
use mir.Syntax.{w64}
use Rattle.integers.proofs.Bits.{back}
use Rattle.itxb1_small.proofs.stage_two.itxb1.Goals.{Start, Then-taken, Then-taken-2}
use Rattle.itxb1_small.proofs.stage_two.itxb1.Goals as goal

module _ (s : Start) where
  -- what the guard answers
  abbrev answer : Bool
  answer = takes 1 3 0 s.args.log2_size s.args.log2_line (stage_two_number (length s.args.src.now) (length s.args.dst.now) s.args.log2_size s.args.log2_line s.args.shift)

  known : answer ≡ true → Call 1 3 0 (length s.args.src.now) (length s.args.dst.now) s.args.log2_size s.args.log2_line s.args.shift
  known g = call g

  -- what the stage leaves, and that it was done
  abbrev Stored : List ℤ → Type 0
  Stored d =
      let a = s.args in
      let N = 2 ^ a.log2_size in
      d ≡ written (samples_of a.log2_size a.log2_line) (stage_two_at (tm N) N (2 ^ a.log2_line) a.shift a.src.now) a.dst.now

  did :
      (d : List ℤ) →
      answer ≡ true →
      Stored d →
      let a = s.args in
      (true ≡ takes_two 1 3 0 a.log2_size a.log2_line a.shift a.src.now a.dst.now)
      × (d ≡ done_two true a.log2_size a.log2_line a.shift a.src.now a.dst.now)
  unfolding stage_two_exit
  did d g p = (sym g, rw (takes-accepted 1 3 0 s.args.log2_size s.args.log2_line _ g) p)

  leave :
      answer ≡ false →
      let a = s.args in
      (false ≡ takes_two 1 3 0 a.log2_size a.log2_line a.shift a.src.now a.dst.now)
      × (a.dst.now ≡ done_two false a.log2_size a.log2_line a.shift a.src.now a.dst.now)
  leave g = two-left 1 3 0 s.args.log2_size s.args.log2_line s.args.src.now s.args.dst.now s.args.shift g

-- ---- the block of 2 by 2
two_rooms : (s : Start) → s.args.log2_size ≡ 1 → s.args.log2_line ≡ 1 → answer s ≡ true → StageRoom s.args.src.now s.args.dst.now 2 2
two_rooms s a b g = rw (a, b) at (call-rooms {src = s.args.src.now} {dst = s.args.dst.now} (known s g))

two-lines : (s : Start) (d : List ℤ) → s.args.log2_size ≡ 1 → s.args.log2_line ≡ 1 → d ≡ written 4 (stage_two_at (tm 2) 2 2 s.args.shift s.args.src.now) s.args.dst.now → Stored s d
two-lines s d a b p = rw (a, b) p

-- the answer is the guard's
module _ (s : Start) where
  abbrev Answered : Bool → List ℤ → Type 0
  Answered r d =
      let a = s.args in
      (r ≡ takes_two 1 3 0 a.log2_size a.log2_line a.shift a.src.now a.dst.now)
      × (d ≡ done_two r a.log2_size a.log2_line a.shift a.src.now a.dst.now)

  done : (r : Bool) (d : List ℤ) → r ≡ answer s → r ≡ true → Stored s d → Answered r d
  done r d e t p = subst (λ (r : Bool). Answered r d) (sym t) (did s d (sym e ∙ t) p)

  left : (r : Bool) → r ≡ answer s → r ≡ false → Answered r s.args.dst.now
  left r e t = subst (λ (r : Bool). Answered r s.args.dst.now) (sym t) (leave s (sym e ∙ t))

  -- of two lines, whose log is a literal
  two-call : s.args.log2_line ≡ 1 → answer s ≡ true → Call 1 3 0 (length s.args.src.now) (length s.args.dst.now) s.args.log2_size 1 s.args.shift
  two-call b g = subst (λ (b : ℕ). Call 1 3 0 (length s.args.src.now) (length s.args.dst.now) s.args.log2_size b s.args.shift) b (known s g)

  two-stored :
      (d : List ℤ) →
      s.args.log2_line ≡ 1 →
      d ≡ written (samples_of s.args.log2_size 1) (stage_two_at (tm (2 ^ s.args.log2_size)) (2 ^ s.args.log2_size) (2 ^ 1) s.args.shift s.args.src.now) s.args.dst.now →
      Stored s d
  two-stored d b p = rw b p

did-2 : (c : Then-taken) → takes 1 3 0 c.args.log2_size c.args.log2_line (stage_two_number (length c.args.src.now) (length c.args.dst.now) c.args.log2_size c.args.log2_line c.args.shift) ≡ true
did-2 c = sym c.takes-taken.ensures ∙ c.if-taken.true

did-4 : (c : Then-taken-2) → takes 1 3 0 c.args.log2_size c.args.log2_line (stage_two_number (length c.args.src.now) (length c.args.dst.now) c.args.log2_size c.args.log2_line c.args.shift) ≡ true
did-4 c = sym c.takes-taken-2.ensures ∙ c.if-taken-2.true

pub invariant_of-r : goal.invariant_of-r
invariant_of-r c = record {
  amount = amount c.args.shift (known (goal.at.invariant_of-r c).Start (did-2 (goal.at.invariant_of-r c).Then-taken)).shift-most (back w64 c.rounding.result c.rounding.type_inv ∙ c.rounding.ensures);
}

pub rows-requires : goal.rows-requires
rows-requires c =
    (inl refl, two_rooms (goal.at.rows-requires c).Start c.if-log2_size-eq1.true c.if-log2_line-eq1.true (did-2 (goal.at.rows-requires c).Then-taken))

pub returns-then-taken : goal.returns-then-taken
returns-then-taken c =
    let both = done (goal.at.returns-then-taken c).Start c.takes-taken.result _ c.takes-taken.ensures c.if-taken.true (two-lines (goal.at.returns-then-taken c).Start _ c.if-log2_size-eq1.true c.if-log2_line-eq1.true c.rows.ensures) in record { did = both.0; exit = both.1 }

pub returns-else-taken : goal.returns-else-taken
returns-else-taken c =
    let both = left (goal.at.returns-else-taken c).Start c.takes-taken.result c.takes-taken.ensures c.if-taken.false in record { did = both.0; exit = both.1 }

-- ---- the others
pub lines-requires : goal.lines-requires
lines-requires c = two-call (goal.at.lines-requires c).Start c.if-log2_line-eq1-2.true (did-4 (goal.at.lines-requires c).Then-taken-2)

pub lines-requires-else-log2_line-eq1-2 : goal.lines-requires-else-log2_line-eq1-2
lines-requires-else-log2_line-eq1-2 c = known (goal.at.lines-requires-else-log2_line-eq1-2 c).Start (did-4 (goal.at.lines-requires-else-log2_line-eq1-2 c).Then-taken-2)

pub returns-then-log2_line-eq1-2 : goal.returns-then-log2_line-eq1-2
returns-then-log2_line-eq1-2 c =
    let both = done (goal.at.returns-then-log2_line-eq1-2 c).Start c.takes-taken-2.result _ c.takes-taken-2.ensures c.if-taken-2.true (two-stored (goal.at.returns-then-log2_line-eq1-2 c).Start _ c.if-log2_line-eq1-2.true c.lines.ensures) in record { did = both.0; exit = both.1 }

pub returns-else-log2_line-eq1-2 : goal.returns-else-log2_line-eq1-2
returns-else-log2_line-eq1-2 c =
    let both = done (goal.at.returns-else-log2_line-eq1-2 c).Start c.takes-taken-2.result _ c.takes-taken-2.ensures c.if-taken-2.true c.lines-else-log2_line-eq1-2.ensures in record { did = both.0; exit = both.1 }

pub returns-else-taken-2 : goal.returns-else-taken-2
returns-else-taken-2 c =
    let both = left (goal.at.returns-else-taken-2 c).Start c.takes-taken-2.result c.takes-taken-2.ensures c.if-taken-2.false in record { did = both.0; exit = both.1 }
