-- `itx_lines::stage_two::itxb1` meets its contract: by its lines where the guard holds. Assumes nothing.
use mathlib.Core.Path.{◌≡◌, refl, sym, ◌∙◌}
use mathlib.Core.Bool.{true}
use Rattle.std.proofs.Common.{inl, inr}
use mathlib.Core.List.{List}
use Prim.Native.Nat.{ℕ, ◌*◌, ◌^◌, ◌%◌}
use native.Mathlib.Omega.{arith}
use lib.ListN.{length}
use lib.IntN.{ℤ}
use mir.Syntax.{w64}
use mir.Val.{to_z, of_z}
use Rattle.integers.specs.Lists.{written}
use Rattle.evc.specs.Table.{tm}
use Rattle.evc.specs.Stages.{stage_two_at, stage_two_number}
use Rattle.itx_halving.specs.Lines.{Amount, StageRoom}
use Rattle.itx_halving.specs.Taken.{takes, Call, takes_two, done_two}
use Rattle.itx_halving.proofs.Lines.{sized-rooms, sized-end, amount}
use Rattle.itx_halving.proofs.Taken.{call, call-rooms, two-did, two-left}
use Rattle.integers.proofs.Bits.{back}
use Rattle.itx_lines.proofs.stage_two.itxb1.Goals.{After-rounding, Then-takes}
use Rattle.itx_lines.proofs.stage_two.itxb1.Goals as goal

-- where the guard has let the call pass
module _ (c : Then-takes) where
  guard :
      let a = c.args in
      takes 4 6 0 a.log2_size a.log2_line (stage_two_number (length a.src.now) (length a.dst.now) a.log2_size a.log2_line a.shift) ≡ true
  guard = sym c.takes.ensures ∙ c.if-takes.true

  known : Call 4 6 0 (length c.args.src.now) (length c.args.dst.now) c.args.log2_size c.args.log2_line c.args.shift
  known = call guard

  -- the number of lines, as the code has it
  abbrev l : ℕ
  l = (1 * 2 ^ c.args.log2_line) % 2 ^ 64

  room : (k : ℕ) → c.args.log2_size ≡ k → StageRoom c.args.src.now c.args.dst.now (2 ^ k) l
  room k e = sized-rooms c.args.log2_size k e (call-rooms known)

  -- what the stage leaves, by the size
  abbrev left : ℕ → ℕ → ℤ
  left g = stage_two_at (tm (2 ^ g)) (2 ^ g) l c.args.shift c.args.src.now

  done :
      (k : ℕ) {d : List ℤ} →
      c.args.log2_size ≡ k →
      d ≡ written (2 ^ k * l) (left k) c.args.dst.now →
      let a = c.args in
      (true ≡ takes_two 4 6 0 a.log2_size a.log2_line a.shift a.src.now a.dst.now)
      × (d ≡ done_two true a.log2_size a.log2_line a.shift a.src.now a.dst.now)
  done k e p =
      two-did 4 6 0 c.args.log2_size c.args.log2_line c.args.src.now c.args.dst.now c.args.shift guard
      (sized-end left c.args.dst.now l c.args.log2_size k e p)

-- the rounding number
sum : (c : After-rounding) → Amount (to_z w64 (of_z w64 c.rounding.result)) c.args.shift
sum c =
    amount c.args.shift (known (goal.at.overflow_shl-l c).Then-takes).shift-most (back w64 c.rounding.result c.rounding.type_inv ∙ c.rounding.ensures)

pub invariant_of-r : goal.invariant_of-r
invariant_of-r c = record { amount = sum (goal.at.invariant_of-r c).After-rounding }

pub invariant_of-r-in-5 : goal.invariant_of-r-in-5
invariant_of-r-in-5 c = record { amount = sum (goal.at.invariant_of-r-in-5 c).After-rounding }

pub invariant_of-r-in_default : goal.invariant_of-r-in_default
invariant_of-r-in_default c = record { amount = sum (goal.at.invariant_of-r-in_default c).After-rounding }

pub overflow_shl-l : goal.overflow_shl-l
overflow_shl-l c = omega (arith, (known (goal.at.overflow_shl-l c).Then-takes).line-most)

pub lines-requires : goal.lines-requires
lines-requires c = (inl refl, room (goal.at.lines-requires c).Then-takes 4 c.in-4.is)

pub lines-requires-in-5 : goal.lines-requires-in-5
lines-requires-in-5 c = (inr (inl refl), room (goal.at.lines-requires-in-5 c).Then-takes 5 c.in-5.is)

pub lines-requires-in_default : goal.lines-requires-in_default
lines-requires-in_default c =
    let k = known (goal.at.lines-requires-in_default c).Then-takes in (inr (inr refl), room (goal.at.lines-requires-in_default c).Then-takes 6 (omega (arith, k.size-least, k.size-most)))

pub returns-in-4 : goal.returns-in-4
returns-in-4 c =
    let both = done (goal.at.returns-in-4 c).Then-takes 4 c.in-4.is c.lines.ensures in record { did = both.0; exit = both.1 }

pub returns-in-5 : goal.returns-in-5
returns-in-5 c =
    let both = done (goal.at.returns-in-5 c).Then-takes 5 c.in-5.is c.lines-in-5.ensures in record { did = both.0; exit = both.1 }

pub returns-in_default : goal.returns-in_default
returns-in_default c =
    let both = done (goal.at.returns-in_default c).Then-takes 6 (omega (arith, (known (goal.at.returns-in_default c).Then-takes).size-least, (known (goal.at.returns-in_default c).Then-takes).size-most)) c.lines-in_default.ensures in record { did = both.0; exit = both.1 }

pub returns : goal.returns
returns c =
    let a = c.args in
    let both = two-left 4 6 0 a.log2_size a.log2_line a.src.now a.dst.now a.shift (sym c.takes.ensures ∙ c.if-takes.false) in record { did = both.0; exit = both.1 }
