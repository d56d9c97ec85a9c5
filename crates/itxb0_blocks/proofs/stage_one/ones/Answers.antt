-- `itxb0_blocks::stage_one::ones` meets its contract: block after block, of the size that the log says. Assumes nothing.
use Rattle.std.proofs.Common.{inl, inr}
use mathlib.Core.Path.{◌≡◌, refl, sym, subst}
use mathlib.Core.List.{List}
use Prim.Native.Nat.{ℕ, ◌*◌, ◌^◌}
use native.Mathlib.Omega.{arith}
use lib.IntN.{ℤ}
use Rattle.evc.specs.Table.{tm}
use Rattle.evc.specs.Stages.{stage_one_at}
use Rattle.itx_halving.specs.Blocks.{BlockRoom, Blocked}
use Rattle.itx_halving.proofs.Places.{blocks-none, blocks-room, blocks_more, blocks-all}
use Rattle.itxb0_blocks.proofs.stage_one.ones.Goals.{In-loop-i, in-4, in-5, in_default}
use Rattle.itxb0_blocks.proofs.stage_one.ones.Goals as goal

pub loop-i-init : goal.loop-i-init
loop-i-init c = blocks-none c.requires.1.0.dst-room c.requires.1.1

-- the log says which size a block has: what is asked of it, and what it leaves
module _ (c : In-loop-i) where
  abbrev sums : ℕ → ℕ → ℤ
  sums g = stage_one_at (tm (2 ^ g)) (2 ^ g) c.args.l c.args.src.now

  room : (k : ℕ) → c.args.log ≡ k → BlockRoom c.args.src.now c.loop-i.dst (2 ^ k) c.args.l (c.loop-i.i * 16)
  room k e =
      subst (λ (g : ℕ). BlockRoom c.args.src.now c.loop-i.dst (2 ^ g) c.args.l (c.loop-i.i * 16)) e
      (blocks-room c.loop-i.invariant c.requires.1.0.src-room c.loop-i-test.true)

  arm :
      (k : ℕ) {d d' : List ℤ} →
      c.args.log ≡ k →
      Blocked (sums k) c.loop-i.dst d (2 ^ k) (c.loop-i.i * 16) →
      d' ≡ d →
      Blocked (sums c.args.log) c.loop-i.dst d' (2 ^ c.args.log) (c.loop-i.i * 16)
  arm k {d} {d'} e r f =
      subst (λ (g : ℕ). Blocked (sums g) c.loop-i.dst d' (2 ^ g) (c.loop-i.i * 16)) (sym e)
      (subst (λ (d : List ℤ). Blocked (sums k) c.loop-i.dst d (2 ^ k) (c.loop-i.i * 16)) (sym f) r)

pub one-requires : goal.one-requires
one-requires c = ((refl, inl refl), room (goal.at.one-requires c).In-loop-i 4 c.in-4.is)

pub one-requires-in-5 : goal.one-requires-in-5
one-requires-in-5 c = ((refl, inr (inl refl)), room (goal.at.one-requires-in-5 c).In-loop-i 5 c.in-5.is)

pub one-requires-in_default : goal.one-requires-in_default
one-requires-in_default c =
    let p = c.requires.0 in ((refl, inr (inr refl)), room (goal.at.one-requires-in_default c).In-loop-i 6 (omega (arith, p.0, p.1)))

pub loop-i-preserved : goal.loop-i-preserved
loop-i-preserved c =
    let p = c.requires.0 in
    let i = (goal.at.loop-i-preserved c).In-loop-i in
    blocks_more c.loop-i.invariant c.loop-i-test.true
    (elim c.match-log.branch [
      | in-4 w ↦ arm i 4 w.in-4.is w.one.ensures w.dst-is
      | in-5 w ↦ arm i 5 w.in-5.is w.one-in-5.ensures w.dst-is
      | in_default w ↦ arm i 6 (omega (arith, p.0, p.1)) w.one-in_default.ensures w.dst-is
    ])

pub returns : goal.returns
returns c = blocks-all c.loop-i.invariant c.loop-i-test.false
