-- `satd::satd::of_blocks` meets its contract: the differences that are formed were tested. Assumes nothing.
use mathlib.Core.Path.{◌≡◌, sym, ap, ap₂, subst, ◌∙◌}
use Prim.Native.Nat.{ℕ, ◌-◌, ◌/◌, ◌^◌}
use native.Mathlib.Nat.{div-le_self}
use native.Mathlib.Omega.{arith}
use lib.IntN.{ℤ}
use Rattle.evc.specs.Answers.{Reply}
use Rattle.evc.specs.Tests.{reply}
use Rattle.evc.specs.Differences.{difference}
use Rattle.evc.specs.Tiles.{tile_side, satd_total}
use Rattle.plane_tests.specs.Blocks.{strided, rest}
use Rattle.block_rows.specs.Small.{Tested, apart_from}
use Rattle.block_rows.proofs.Tested.{some-marked, none-marked, none-small}
use Rattle.satd.specs.Sides.{Side}
use Rattle.satd.proofs.Tiling.{satd-fits}
use Rattle.satd.proofs.satd.Ends.{side-is}
use Rattle.satd.proofs.satd.of_blocks.Goals.{After-side, After-total-sum, Start}
use Rattle.satd.proofs.satd.of_blocks.Goals as goal

-- what is answered by the number of SAMPLE, n
abbrev answered : Start → ℕ → Reply ℕ
answered s n =
    let a = s.args in
    let d = difference (strided a.a.now a.a_at a.a_stride a.depth) (strided a.b.now 0 a.w a.depth) in
    reply n (satd_total (tile_side a.w a.h) a.w a.h d / 2 ^ (a.depth - 8))

pub returns-then-any-depth-ne0 : goal.returns-then-any-depth-ne0
unfolding rest
returns-then-any-depth-ne0 c = ap (answered (goal.at.returns-then-any-depth-ne0 c).Start) (some-marked _ _ _ _ _ _ _ _ _ c.any_block-any.ensures c.if-any-depth-ne0.true)

-- the blocks are tested
tested :
    (c : After-side) →
    let a = c.args in Tested a.w a.h a.a.now a.a_at a.a_stride a.b.now 0 a.w
tested c =
    record { blocks = c.requires.two_blocks; small = none-small _ _ _ _ _ _ _ _ _ c.any_block-any.ensures c.requires.le_depth.1 c.if-any-depth-ne0.false }

pub total-sum-requires : goal.total-sum-requires
total-sum-requires c =
    let a = c.args in
    record { side = subst Side (sym c.side.ensures) (side-is a.w a.h); tested = tested c }

chosen : (r n m w h : ℕ) (d : ℕ → ℕ → ℤ) → n ≡ m → r ≡ satd_total n w h d → r ≡ satd_total m w h d
chosen r n m w h d e f = f ∙ ap (λ (k : ℕ). satd_total k w h d) e

-- the total of the tiles that the definition asks for
summed :
    (c : After-total-sum) →
    let a = c.args in
    c.total-sum.result ≡ satd_total (tile_side a.w a.h) a.w a.h (apart_from a.a.now a.a_at a.a_stride a.b.now 0 a.w)
summed c =
    let a = c.args in
    chosen c.total-sum.result c.side.result (tile_side a.w a.h) a.w a.h
    (apart_from a.a.now a.a_at a.a_stride a.b.now 0 a.w) c.side.ensures c.total-sum.ensures

pub overflow_cast-satd-2 : goal.overflow_cast-satd-2
overflow_cast-satd-2 c =
    let a = c.args in
    omega (
      arith,
      div-le_self c.total-sum.result (2 ^ (a.depth - 8)),
      summed c,
      satd-fits (tested (goal.at.overflow_cast-satd-2 c).After-side) (tile_side a.w a.h) (side-is a.w a.h),
    )

pub returns : goal.returns
unfolding rest apart_from
returns c =
    ap₂ (λ (n m : ℕ). reply n (m / 2 ^ (c.args.depth - 8)))
    (none-marked _ _ _ _ _ _ _ _ _ c.any_block-any.ensures c.if-any-depth-ne0.false) (summed c)
