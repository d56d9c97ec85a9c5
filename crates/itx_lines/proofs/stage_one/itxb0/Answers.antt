-- `itx_lines::stage_one::itxb0` meets its contract: by its lines where the guard holds. Assumes nothing.
use mathlib.Core.Path.{◌≡◌, refl, sym, ◌∙◌}
use mathlib.Core.Bool.{true}
use Rattle.std.proofs.Common.{inl, inr}
use mathlib.Core.List.{List}
use Prim.Native.Nat.{ℕ, ◌*◌, ◌^◌, ◌%◌}
use native.Mathlib.Omega.{arith}
use lib.ListN.{length}
use lib.IntN.{ℤ}
use Rattle.integers.specs.Lists.{written}
use Rattle.evc.specs.Table.{tm}
use Rattle.evc.specs.Stages.{stage_one_at, stage_two_number}
use Rattle.itx_halving.specs.Lines.{StageRoom}
use Rattle.itx_halving.specs.Taken.{takes, Call, takes_one, done_one}
use Rattle.itx_halving.proofs.Lines.{sized-rooms, sized-end}
use Rattle.itx_halving.proofs.Taken.{call, call-rooms, one-did, one_left}
use Rattle.itx_lines.proofs.stage_one.itxb0.Goals.{Then-takes}
use Rattle.itx_lines.proofs.stage_one.itxb0.Goals as goal

-- where the guard has let the call pass
module _ (c : Then-takes) where
  guard : takes 4 6 0 c.args.log2_size c.args.log2_line (stage_two_number (length c.args.src.now) (length c.args.dst.now) c.args.log2_size c.args.log2_line 0) ≡ true
  guard = sym c.takes.ensures ∙ c.if-takes.true

  known : Call 4 6 0 (length c.args.src.now) (length c.args.dst.now) c.args.log2_size c.args.log2_line 0
  known = call guard

  -- the number of lines, as the code has it
  abbrev l : ℕ
  l = (1 * 2 ^ c.args.log2_line) % 2 ^ 64

  room : (k : ℕ) → c.args.log2_size ≡ k → StageRoom c.args.src.now c.args.dst.now (2 ^ k) l
  room k e = sized-rooms c.args.log2_size k e (call-rooms known)

  -- what the stage leaves, by the size
  abbrev left : ℕ → ℕ → ℤ
  left g = stage_one_at (tm (2 ^ g)) (2 ^ g) l c.args.src.now

  done :
      (k : ℕ) {d : List ℤ} →
      c.args.log2_size ≡ k →
      d ≡ written (2 ^ k * l) (left k) c.args.dst.now →
      let a = c.args in
      (true ≡ takes_one 4 6 0 a.log2_size a.log2_line a.src.now a.dst.now) × (d ≡ done_one true a.log2_size a.log2_line a.src.now a.dst.now)
  done k e p =
      one-did 4 6 0 c.args.log2_size c.args.log2_line c.args.src.now c.args.dst.now guard
      (sized-end left c.args.dst.now l c.args.log2_size k e p)

pub overflow_shl-l : goal.overflow_shl-l
overflow_shl-l c = omega (arith, (known c).line-most)

pub lines-requires : goal.lines-requires
lines-requires c = (inl refl, room (goal.at.lines-requires c).Then-takes 4 c.in-4.is)

pub lines-requires-in-5 : goal.lines-requires-in-5
lines-requires-in-5 c = (inr (inl refl), room (goal.at.lines-requires-in-5 c).Then-takes 5 c.in-5.is)

pub lines-requires-in_default : goal.lines-requires-in_default
lines-requires-in_default c = (inr (inr refl), room (goal.at.lines-requires-in_default c).Then-takes 6 (omega (arith, (known (goal.at.lines-requires-in_default c).Then-takes).size-least, (known (goal.at.lines-requires-in_default c).Then-takes).size-most)))

pub returns-in-4 : goal.returns-in-4
returns-in-4 c =
    let both = done (goal.at.returns-in-4 c).Then-takes 4 c.in-4.is c.lines.ensures in record { did = both.0; exit = both.1 }

pub returns-in-5 : goal.returns-in-5
returns-in-5 c =
    let both = done (goal.at.returns-in-5 c).Then-takes 5 c.in-5.is c.lines-in-5.ensures in record { did = both.0; exit = both.1 }

pub returns-in_default : goal.returns-in_default
returns-in_default c =
    let both = done (goal.at.returns-in_default c).Then-takes 6 (omega (arith, (known (goal.at.returns-in_default c).Then-takes).size-least, (known (goal.at.returns-in_default c).Then-takes).size-most)) c.lines-in_default.ensures in record { did = both.0; exit = both.1 }

pub returns : goal.returns
returns c =
    let both = one_left 4 6 0 c.args.log2_size c.args.log2_line c.args.src.now c.args.dst.now (sym c.takes.ensures ∙ c.if-takes.false) in record { did = both.0; exit = both.1 }
