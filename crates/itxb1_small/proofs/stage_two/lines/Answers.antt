-- `itxb1_small::stage_two::lines` meets its contract: of a log that is known, and of 4 lines where there are 4. Assumes nothing.
use mathlib.Core.Path.{◌≡◌, refl, sym, ◌∙◌, subst}
use mathlib.Core.List.{List}
use Rattle.std.proofs.Common.{inl, inr}
use Prim.Native.Nat.{ℕ, ◌*◌, ◌^◌, ◌%◌}
use native.Mathlib.Omega.{arith}
use lib.IntN.{ℤ}
use mir.Syntax.{w64}
use mir.Val.{to_z, of_z}
use Rattle.integers.specs.Lists.{written}
use Rattle.evc.specs.Table.{tm}
use Rattle.evc.specs.Tests.{samples_of}
use Rattle.evc.specs.Stages.{stage_two_at}
use Rattle.itx_halving.specs.Lines.{Amount, StageRoom}
use Rattle.itx_halving.proofs.Lines as law
use Rattle.itx_halving.proofs.Taken as takes
use Rattle.itxb1_small.proofs.Quotients.{groups-whole}
use Rattle.integers.proofs.Bits.{back}
use Rattle.itxb1_small.proofs.stage_two.lines.Goals.{After-rounding, Start}
use Rattle.itxb1_small.proofs.stage_two.lines.Goals as goal

module _ (s : Start) where
  -- the number of lines, as the code has it
  abbrev l : ℕ
  l = (1 * 2 ^ s.args.log2_line) % 2 ^ 64

  count : l ≡ 2 ^ s.args.log2_line
  count = takes.lines s.requires

  -- what is asked of n lines of the size 2^g, and shown of them
  room : (g n : ℕ) → s.args.log ≡ g → l ≡ n → StageRoom s.args.src.now s.args.dst.now (2 ^ g) n
  room g n e f =
      subst (λ (n : ℕ). StageRoom s.args.src.now s.args.dst.now (2 ^ g) n) f
      (subst (λ (g : ℕ). StageRoom s.args.src.now s.args.dst.now (2 ^ g) l) e (takes.call-rooms s.requires))

  abbrev left : ℕ → ℕ → ℕ → ℤ
  left g n = stage_two_at (tm (2 ^ g)) (2 ^ g) n s.args.shift s.args.src.now

  stored :
      (d : List ℤ) (g n : ℕ) →
      s.args.log ≡ g →
      l ≡ n →
      d ≡ written (2 ^ g * n) (left g n) s.args.dst.now →
      d ≡ written (samples_of s.args.log s.args.log2_line) (left s.args.log (2 ^ s.args.log2_line)) s.args.dst.now
  stored d g n e f p =
      law.stage-end (left s.args.log) s.args.dst.now s.args.log s.args.log2_line l count
      (subst (λ (g : ℕ). d ≡ written (2 ^ g * l) (left g l) s.args.dst.now) (sym e) (subst (λ (n : ℕ). d ≡ written (2 ^ g * n) (left g n) s.args.dst.now) (sym f) p))

amount : (c : After-rounding) → Amount (to_z w64 (of_z w64 c.rounding.result)) c.args.shift
amount c = law.amount c.args.shift c.requires.shift-most (back w64 c.rounding.result c.rounding.type_inv ∙ c.rounding.ensures)

pub invariant_of-r : goal.invariant_of-r
invariant_of-r c = record { amount = amount (goal.at.invariant_of-r c).After-rounding }

pub invariant_of-r-then-l-eq4 : goal.invariant_of-r-then-l-eq4
invariant_of-r-then-l-eq4 c = record { amount = amount (goal.at.invariant_of-r-then-l-eq4 c).After-rounding }

pub invariant_of-r-else-l-eq4 : goal.invariant_of-r-else-l-eq4
invariant_of-r-else-l-eq4 c = record { amount = amount (goal.at.invariant_of-r-else-l-eq4 c).After-rounding }

pub invariant_of-r-in_default : goal.invariant_of-r-in_default
invariant_of-r-in_default c = record { amount = amount (goal.at.invariant_of-r-in_default c).After-rounding }

pub overflow_shl-l : goal.overflow_shl-l
overflow_shl-l c = omega (arith, c.requires.line-most)

pub rows-requires : goal.rows-requires
rows-requires c = (inl refl, room (goal.at.rows-requires c).Start 1 (l (goal.at.rows-requires c).Start) c.in-1.is refl)

pub rows-requires-then-l-eq4 : goal.rows-requires-then-l-eq4
rows-requires-then-l-eq4 c = (inr refl, room (goal.at.rows-requires-then-l-eq4 c).Start 2 4 c.in-2.is c.if-l-eq4.true)

pub rows-requires-else-l-eq4 : goal.rows-requires-else-l-eq4
rows-requires-else-l-eq4 c = (inr refl, room (goal.at.rows-requires-else-l-eq4 c).Start 2 (l (goal.at.rows-requires-else-l-eq4 c).Start) c.in-2.is refl)

pub rows8-requires : goal.rows8-requires
rows8-requires c =
    let e : c.args.log ≡ 3 = omega (arith, c.requires.size-least, c.requires.size-most) in
    (rw (count (goal.at.rows8-requires c).Start) (groups-whole c.args.log2_line c.requires.line-most), room (goal.at.rows8-requires c).Start 3 (l (goal.at.rows8-requires c).Start) e refl)

pub returns-in-1 : goal.returns-in-1
returns-in-1 c = stored (goal.at.returns-in-1 c).Start _ 1 (l (goal.at.returns-in-1 c).Start) c.in-1.is refl c.rows.ensures

pub returns-then-l-eq4 : goal.returns-then-l-eq4
returns-then-l-eq4 c =
    stored (goal.at.returns-then-l-eq4 c).Start _ 2 4 c.in-2.is c.if-l-eq4.true c.rows-then-l-eq4.ensures

pub returns-else-l-eq4 : goal.returns-else-l-eq4
returns-else-l-eq4 c =
    stored (goal.at.returns-else-l-eq4 c).Start _ 2 (l (goal.at.returns-else-l-eq4 c).Start) c.in-2.is refl c.rows-else-l-eq4.ensures

pub returns-in_default : goal.returns-in_default
returns-in_default c =
    let e : c.args.log ≡ 3 = omega (arith, c.requires.size-least, c.requires.size-most) in
    stored (goal.at.returns-in_default c).Start _ 3 (l (goal.at.returns-in_default c).Start) e refl c.rows8.ensures
