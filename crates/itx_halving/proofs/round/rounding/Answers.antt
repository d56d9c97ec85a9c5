-- `itx_halving::round::rounding` meets its contract: one test over the 32 shifts. Assumes nothing.
use mathlib.Core.Bool.{Bool}
use Prim.Native.Nat.{ℕ, ◌*◌, ◌^◌, ◌%◌, ◌<◌}
use native.Mathlib.Omega.{arith}
use native.Mathlib.Nat.{mod-lt}
use lib.Dec.{T}
use lib.Signed.{shr_z}
use mir.Syntax.{w64}
use mir.Val.{to_z, of_z}
use Rattle.integers.proofs.Every.{below, below_at, eq_z, eq_z→eq}
use Rattle.evc.specs.Stages.{rounding}
use Rattle.itx_halving.proofs.round.rounding.Goals as goal

-- the bits of the code's number, as they are read, are the rounding number
right : ℕ → Bool
right s = eq_z (to_z w64 (of_z w64 (shr_z (to_z w64 (1 * 2 ^ s % 2 ^ 64)) 2))) (rounding s)

all_right : T (below right 32)
unfolding right
all_right = tt

pub overflow_shl-result : goal.overflow_shl-result
overflow_shl-result c = let h : c.args.shift % 32 < 32 = mod-lt c.args.shift (omega arith) in omega arith

pub returns : goal.returns
unfolding right
returns c = eq_z→eq _ _ (below_at right 32 all_right (c.args.shift % 32) (mod-lt c.args.shift (omega arith)))
