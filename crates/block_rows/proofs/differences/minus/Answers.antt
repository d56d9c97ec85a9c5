-- `block_rows::differences::minus` meets its contract: what is cast fits. Assumes nothing.
use mathlib.Core.Path.{◌≡◌, sym, ap, ◌∙◌, subst}
use mathlib.Core.Bool.{Bool}
use mathlib.Core.List.{[], ◌∷◌}
use Prim.Native.Nat.{ℕ, ◌≤◌}
use native.Mathlib.Omega.{arith}
use lib.IntN.{ℤ, pos, negsuc, nat_abs, ◌-ℤ◌}
use lib.Signed.{lt_z}
use mir.Syntax.{w16, w32}
use mir.Val.{SFits}
use mir.Facts.{to_z-of_z}
use Rattle.integers.proofs.Expr.{Ex, Known, env, nat, var, lit, add, sub, loc, raw, machines, fit, reads}
use Rattle.integers.proofs.Parts.{abs-dif-le}
use Rattle.block_rows.proofs.Wrapped.{wrapped-low, low_fits, wrapped-high, high_fits, wrapped-none, none-fits}
use Rattle.block_rows.proofs.differences.minus.Goals.{Start}
use Rattle.block_rows.proofs.differences.minus.Goals as goal

abbrev ρ : Start → ℕ → Known
ρ c = env (nat w32 c.args.p 65535 (omega arith) tt ∷ nat w32 c.args.q 65535 (omega arith) tt ∷ [])

abbrev d : Ex
d = sub (var 0) (var 1)

abbrev up : Ex
up = add (loc w32 d) (lit (pos 65536))

abbrev down : Ex
down = sub (loc w32 d) (lit (pos 65536))

abbrev z : Start → ℤ
z c = pos c.args.p -ℤ pos c.args.q

size : (c : Start) → nat_abs (z c) ≤ 65535
size c = abs-dif-le 65535 c.args.p c.args.q (omega arith) (omega arith)

-- the tests are of the exact difference
at_low : (c : Start) {t : Bool} → lt_z (raw (machines (ρ c)) (loc w32 d)) (negsuc 32767) ≡ t → lt_z (z c) (negsuc 32767) ≡ t
at_low c e = sym (ap (λ (x : ℤ). lt_z x (negsuc 32767)) (reads (ρ c) (loc w32 d) tt)) ∙ e

at_high : (c : Start) {t : Bool} → lt_z (pos 32767) (raw (machines (ρ c)) (loc w32 d)) ≡ t → lt_z (pos 32767) (z c) ≡ t
at_high c e = sym (ap (lt_z (pos 32767)) (reads (ρ c) (loc w32 d) tt)) ∙ e

pub overflow_sub-d : goal.overflow_sub-d
overflow_sub-d c = fit (ρ c) w32 d tt

pub overflow_add-result : goal.overflow_add-result
overflow_add-result c = fit (ρ (goal.at.overflow_add-result c).Start) w32 up tt

pub overflow_cast-result : goal.overflow_cast-result
overflow_cast-result c = subst (SFits w16) (sym (reads (ρ (goal.at.overflow_cast-result c).Start) (loc w32 up) tt)) (low_fits (z (goal.at.overflow_cast-result c).Start) (at_low (goal.at.overflow_cast-result c).Start c.if-d-ltminus32768.true) (size (goal.at.overflow_cast-result c).Start))

pub overflow_sub-result : goal.overflow_sub-result
overflow_sub-result c = fit (ρ (goal.at.overflow_sub-result c).Start) w32 down tt

pub overflow_cast-result-then-d-gt32767 : goal.overflow_cast-result-then-d-gt32767
overflow_cast-result-then-d-gt32767 c =
    subst (SFits w16) (sym (reads (ρ (goal.at.overflow_cast-result-then-d-gt32767 c).Start) (loc w32 down) tt))
    (high_fits (z (goal.at.overflow_cast-result-then-d-gt32767 c).Start) (at_low (goal.at.overflow_cast-result-then-d-gt32767 c).Start c.if-d-ltminus32768.false) (at_high (goal.at.overflow_cast-result-then-d-gt32767 c).Start c.if-d-gt32767.true) (size (goal.at.overflow_cast-result-then-d-gt32767 c).Start))

pub overflow_cast-result-else-d-gt32767 : goal.overflow_cast-result-else-d-gt32767
overflow_cast-result-else-d-gt32767 c =
    subst (SFits w16) (sym (reads (ρ (goal.at.overflow_cast-result-else-d-gt32767 c).Start) (loc w32 d) tt)) (none-fits (z (goal.at.overflow_cast-result-else-d-gt32767 c).Start) (at_low (goal.at.overflow_cast-result-else-d-gt32767 c).Start c.if-d-ltminus32768.false) (at_high (goal.at.overflow_cast-result-else-d-gt32767 c).Start c.if-d-gt32767.false))

pub returns-then-d-ltminus32768 : goal.returns-then-d-ltminus32768
returns-then-d-ltminus32768 c = to_z-of_z (overflow_cast-result c) ∙ reads (ρ (goal.at.returns-then-d-ltminus32768 c).Start) (loc w32 up) tt ∙ wrapped-low (z (goal.at.returns-then-d-ltminus32768 c).Start) (at_low (goal.at.returns-then-d-ltminus32768 c).Start c.if-d-ltminus32768.true)

pub returns-then-d-gt32767 : goal.returns-then-d-gt32767
returns-then-d-gt32767 c =
    to_z-of_z (overflow_cast-result-then-d-gt32767 c) ∙ reads (ρ (goal.at.returns-then-d-gt32767 c).Start) (loc w32 down) tt ∙ wrapped-high (z (goal.at.returns-then-d-gt32767 c).Start) (at_low (goal.at.returns-then-d-gt32767 c).Start c.if-d-ltminus32768.false) (at_high (goal.at.returns-then-d-gt32767 c).Start c.if-d-gt32767.true)

pub returns-else-d-gt32767 : goal.returns-else-d-gt32767
returns-else-d-gt32767 c =
    to_z-of_z (overflow_cast-result-else-d-gt32767 c) ∙ reads (ρ (goal.at.returns-else-d-gt32767 c).Start) (loc w32 d) tt ∙ wrapped-none (z (goal.at.returns-else-d-gt32767 c).Start) (at_low (goal.at.returns-else-d-gt32767 c).Start c.if-d-ltminus32768.false) (at_high (goal.at.returns-else-d-gt32767 c).Start c.if-d-gt32767.false)
