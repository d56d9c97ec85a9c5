-- Where input k of line j stands among l lines of n inputs, and where it would stand with line and input exchanged. Both lie inside, so that a wrong
-- order is refused for what it reads and not for where. Assumes nothing.
use Prim.Native.Nat.{ℕ, ◌+◌, ◌*◌, ◌≤◌, ◌<◌}
use native.Mathlib.Omega.{arith}
use native.Mathlib.Nat.{mul_comm}
use Rattle.itx_halving.proofs.Lines.{place}

pub record Inside (k l j n len : ℕ) : Type 0 where
  pub stands : k * l + j < len
  pub turned : j * n + k < len

pub inside : (k l j n len : ℕ) → k < n → j < l → n * l ≤ len → Inside k l j n len
inside k l j n len h g room = record { stands = place k l j n len h g room; turned = place j n k l len g h (omega (arith, room, mul_comm l n)) }
