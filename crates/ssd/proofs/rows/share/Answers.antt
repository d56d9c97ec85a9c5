-- `ssd::rows::share` meets its contract. Assumes nothing.
use mathlib.Core.Path.{ap, ◌∙◌}
use Prim.Native.Nat.{ℕ, ◌/◌, ◌^◌}
use native.Mathlib.Nat.{mod-eq_of_lt}
use native.Mathlib.Omega.{arith}
use lib.Bits.{bit_and, and_mask}
use Rattle.ssd.specs.Squares.{squared}
use Rattle.ssd.proofs.rows.share.Goals as goal

pub returns-then-w-eq4 : goal.returns-then-w-eq4
unfolding squared
returns-then-w-eq4 c =
    let a = c.args in
    let e = ap (λ (n : ℕ). n / 2 ^ a.shift) c.square.ensures in
    ap (λ (n : ℕ). bit_and n 65535) e ∙ and_mask (squared a.shift a.p a.q) 16 ∙ mod-eq_of_lt (omega (arith, c.requires.square_fits))

pub returns-else-w-eq4 : goal.returns-else-w-eq4
unfolding squared
returns-else-w-eq4 c = ap (λ (n : ℕ). n / 2 ^ c.args.shift) c.square.ensures
