-- `itxb1_blocks::stage_two::itxb1` meets its contract: by blocks where the guard holds. Assumes nothing.
use Rattle.std.proofs.Common.{inl, inr}
use mathlib.Core.Path.{◌≡◌, refl, sym, ◌∙◌}
use mathlib.Core.Bool.{true}
use Prim.Native.Nat.{ℕ, ◌*◌, ◌^◌, ◌%◌}
use native.Mathlib.Omega.{arith}
use lib.Dec.{lit<}
use lib.ListN.{length}
use lib.IntN.{ℤ}
use Rattle.evc.specs.Table.{tm}
use Rattle.evc.specs.Stages.{stage_two_at, stage_two_number}
use Rattle.itx_halving.specs.Taken.{takes, Call}
use Rattle.itx_halving.proofs.Lines.{sized-rooms, sized-end}
use Rattle.itx_halving.proofs.Taken.{call, call-rooms, two-did, two-left}
use Rattle.itx_halving.proofs.Places.{blocks}
use Rattle.itxb1_blocks.proofs.stage_two.itxb1.Goals.{Then-takes}
use Rattle.itxb1_blocks.proofs.stage_two.itxb1.Goals as goal

-- where the guard has let the call pass
module _ (c : Then-takes) where
  guard :
      let a = c.args in
      takes 5 6 4 a.log2_size a.log2_line (stage_two_number (length a.src.now) (length a.dst.now) a.log2_size a.log2_line a.shift) ≡ true
  guard = sym c.takes.ensures ∙ c.if-takes.true

  known : Call 5 6 4 (length c.args.src.now) (length c.args.dst.now) c.args.log2_size c.args.log2_line c.args.shift
  known = call guard

  -- the number of lines, as the code has it, and what the stage leaves by the log of its size
  abbrev l : ℕ
  l = (1 * 2 ^ c.args.log2_line) % 2 ^ 64

  abbrev left : ℕ → ℕ → ℤ
  left g = stage_two_at (tm (2 ^ g)) (2 ^ g) l c.args.shift c.args.src.now

pub overflow_shl-l : goal.overflow_shl-l
overflow_shl-l c = omega (arith, (known c).line-most)

pub twos-requires : goal.twos-requires
twos-requires c =
    let w = known (goal.at.twos-requires c).Then-takes in
    (lit< tt, ((refl, inr (inl refl)), (c.columns32.ensures, (w.shift-most, (sized-rooms _ 5 c.if-log2_size-eq5.true (call-rooms w), blocks w)))))

pub twos-requires-else-log2_size-eq5 : goal.twos-requires-else-log2_size-eq5
twos-requires-else-log2_size-eq5 c =
    let w = known (goal.at.twos-requires-else-log2_size-eq5 c).Then-takes in
    let six = sized-rooms _ 6 (omega (arith, w.size-least, w.size-most, c.if-log2_size-eq5.false)) (call-rooms w) in
    (lit< tt, ((refl, inr (inr refl)), (c.columns64.ensures, (w.shift-most, (six, blocks w)))))

pub returns-then-log2_size-eq5 : goal.returns-then-log2_size-eq5
returns-then-log2_size-eq5 c =
    let both = two-did 5 6 4 c.args.log2_size c.args.log2_line c.args.src.now c.args.dst.now c.args.shift (guard (goal.at.returns-then-log2_size-eq5 c).Then-takes)
    (sized-end (left (goal.at.returns-then-log2_size-eq5 c).Then-takes) c.args.dst.now (l (goal.at.returns-then-log2_size-eq5 c).Then-takes) c.args.log2_size 5 c.if-log2_size-eq5.true c.twos.ensures) in record { did = both.0; exit = both.1 }

pub returns-else-log2_size-eq5 : goal.returns-else-log2_size-eq5
returns-else-log2_size-eq5 c =
    let w = known (goal.at.returns-else-log2_size-eq5 c).Then-takes in
    let both = two-did 5 6 4 c.args.log2_size c.args.log2_line c.args.src.now c.args.dst.now c.args.shift (guard (goal.at.returns-else-log2_size-eq5 c).Then-takes)
    (sized-end (left (goal.at.returns-else-log2_size-eq5 c).Then-takes) c.args.dst.now (l (goal.at.returns-else-log2_size-eq5 c).Then-takes) c.args.log2_size 6 (omega (arith, w.size-least, w.size-most, c.if-log2_size-eq5.false)) c.twos-else-log2_size-eq5.ensures) in record { did = both.0; exit = both.1 }

pub returns : goal.returns
returns c =
    let both = two-left 5 6 4 c.args.log2_size c.args.log2_line c.args.src.now c.args.dst.now c.args.shift (sym c.takes.ensures ∙ c.if-takes.false) in record { did = both.0; exit = both.1 }
