-- `itxb1_small::eight::group` meets its contract: its lines kept, and then clipped. Assumes nothing.
use mathlib.Core.Path.{ap, ◌∙◌}
use mathlib.Core.List.{List}
use Prim.Native.Nat.{ℕ, ◌+◌, ◌*◌}
use native.Mathlib.Omega.{arith}
use lib.ListN.{get_or, replicate}
use lib.IntN.{ℤ, pos}
use Rattle.integers.specs.Z.{clip16}
use Rattle.integers.proofs.Written.{written-length, written_at}
use Rattle.itx_halving.proofs.Lines.{next-ext}
use Rattle.itxb1_small.specs.Groups.{quotient_at}
use Rattle.itxb1_small.proofs.Quotients.{kept-clipped}
use Rattle.itxb1_small.proofs.eight.group.Goals.{Start}
use Rattle.itxb1_small.proofs.eight.group.Goals as goal

-- what is kept, and where
abbrev kept : Start → ℕ → ℤ
kept s i = quotient_at s.args.l s.args.r.shift s.args.src.now (s.args.j0 * 8 + i)

abbrev zeros : List ℤ
zeros = replicate 64 (pos 0)

pub rows-requires : goal.rows-requires
rows-requires c =
    record { among = c.requires.1.0; src-room = c.requires.1.1.src-room; few = c.requires.0; z-room = omega arith }

pub store_clipped-requires : goal.store_clipped-requires
store_clipped-requires c =
    (rw (c.rows.ensures, written-length (8 * c.args.m) (kept (goal.at.store_clipped-requires c).Start) zeros (omega (arith, c.requires.0))) (omega (arith, c.requires.0)), omega (arith, c.requires.1.0, c.requires.1.1.dst-room))

pub returns : goal.returns
returns c =
    next-ext c.store_clipped.ensures
    (λ i h.
    ap (λ (d : List ℤ). clip16 (get_or d i (pos 0))) c.rows.ensures ∙ ap clip16 (written_at (8 * c.args.m) (kept (goal.at.returns c).Start) zeros i (pos 0) h)
    ∙ kept-clipped c.args.l c.args.r.shift c.args.src.now (c.args.j0 * 8 + i))
