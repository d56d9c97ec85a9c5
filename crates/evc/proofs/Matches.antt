-- What a `match` on an answer tells of its number. Assumes nothing.
use native.Mathlib.Omega.{arith}
use mathlib.Core.Path.{◌≡◌}
use Rattle.std.specs.Prelude.{Result, Ok, Err}
use Rattle.evc.specs.declared.Refusal.{Refusal}
use Rattle.evc.specs.Answers.{answer_number}
use Rattle.evc.proofs.Tests.{number-some}

pub is-passed : (v : Result (Unit {0}) Refusal) → (d : Unit {0}) → v ≡ Ok d → answer_number v ≡ 0
is-passed v d e = rw e

pub is-broken : (v : Result (Unit {0}) Refusal) (r : Refusal) → v ≡ Err r → answer_number v ≡ 0 → ⊥
is-broken v r e z = let f : answer_number (Err r) ≡ 0 = rw e at z in omega (arith, number-some r)
