-- `itxb0_small::stage_one::lines` meets its contract: of a log that is known, and of 4 lines where there are 4. Assumes nothing.
use mathlib.Core.Path.{◌≡◌, refl, sym, subst}
use mathlib.Core.List.{List}
use Rattle.std.proofs.Common.{inl, inr}
use Prim.Native.Nat.{ℕ, ◌*◌, ◌^◌}
use native.Mathlib.Omega.{arith}
use lib.IntN.{ℤ}
use Rattle.integers.specs.Lists.{written}
use Rattle.evc.specs.Table.{tm}
use Rattle.evc.specs.Stages.{stage_one_at}
use Rattle.itx_halving.specs.Lines.{StageRoom}
use Rattle.itxb0_small.proofs.stage_one.lines.Goals.{Start}
use Rattle.itxb0_small.proofs.stage_one.lines.Goals as goal

module _ (s : Start) where
  -- what is asked of l lines of the size 2^g, and shown of them
  room : (g l : ℕ) → s.args.log ≡ g → s.args.l ≡ l → StageRoom s.args.src.now s.args.dst.now (2 ^ g) l
  room g l e f =
      subst (λ (l : ℕ). StageRoom s.args.src.now s.args.dst.now (2 ^ g) l) f
      (subst (λ (g : ℕ). StageRoom s.args.src.now s.args.dst.now (2 ^ g) s.args.l) e s.requires.1)

  abbrev Stored : List ℤ → ℕ → ℕ → Type 0
  Stored d g l = d ≡ written (2 ^ g * l) (stage_one_at (tm (2 ^ g)) (2 ^ g) l s.args.src.now) s.args.dst.now

  stored : (d : List ℤ) (g l : ℕ) → s.args.log ≡ g → s.args.l ≡ l → Stored d g l → Stored d s.args.log s.args.l
  stored d g l e f p = subst (λ (g : ℕ). Stored d g s.args.l) (sym e) (subst (Stored d g) (sym f) p)

pub rows-requires : goal.rows-requires
rows-requires c = (inl refl, room (goal.at.rows-requires c).Start 1 c.args.l c.in-1.is refl)

pub rows-requires-then-l-eq4 : goal.rows-requires-then-l-eq4
rows-requires-then-l-eq4 c = (inr (inl refl), room (goal.at.rows-requires-then-l-eq4 c).Start 2 4 c.in-2.is c.if-l-eq4.true)

pub rows-requires-else-l-eq4 : goal.rows-requires-else-l-eq4
rows-requires-else-l-eq4 c = (inr (inl refl), room (goal.at.rows-requires-else-l-eq4 c).Start 2 c.args.l c.in-2.is refl)

pub rows-requires-in_default : goal.rows-requires-in_default
rows-requires-in_default c = (inr (inr refl), room (goal.at.rows-requires-in_default c).Start 3 c.args.l (omega (arith, c.requires.0.0, c.requires.0.1)) refl)

pub returns-in-1 : goal.returns-in-1
returns-in-1 c = stored (goal.at.returns-in-1 c).Start _ 1 c.args.l c.in-1.is refl c.rows.ensures

pub returns-then-l-eq4 : goal.returns-then-l-eq4
returns-then-l-eq4 c = stored (goal.at.returns-then-l-eq4 c).Start _ 2 4 c.in-2.is c.if-l-eq4.true c.rows-then-l-eq4.ensures

pub returns-else-l-eq4 : goal.returns-else-l-eq4
returns-else-l-eq4 c = stored (goal.at.returns-else-l-eq4 c).Start _ 2 c.args.l c.in-2.is refl c.rows-else-l-eq4.ensures

pub returns-in_default : goal.returns-in_default
returns-in_default c = stored (goal.at.returns-in_default c).Start _ 3 c.args.l (omega (arith, c.requires.0.0, c.requires.0.1)) refl c.rows-in_default.ensures
