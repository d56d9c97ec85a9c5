-- Finite sums, defined once over any addition, so that each law of sums is proved once (proofs/Sum.antt).
-- Assumes nothing.
use Rattle.std.specs.Prelude.{◌≡◌, ℕ, zero, suc, ◌+◌, ℤ, pos, ◌+ℤ◌}
use Rattle.std.proofs.Common.{zero-add, add_assoc, add_comm}
use Rattle.std.proofs.Math.IntN.{+ℤ_idl, +ℤ_assoc, +ℤ_comm}

-- an addition: what nothing adds up to, and the sum of two, with the laws of a sum
pub record Addition (A : Type 0) : Type 0 where
  pub none : A
  pub plus : A → A → A
  pub idl : (a : A) → plus none a ≡ a
  pub assoc : (a b c : A) → plus (plus a b) c ≡ plus a (plus b c)
  pub comm : (a b : A) → plus a b ≡ plus b a

abbrev pub addition_z+ : Addition ℤ
addition_z+ = record { none = pos 0; plus = ◌+ℤ◌; idl = +ℤ_idl; assoc = +ℤ_assoc; comm = +ℤ_comm }

abbrev pub addition_n+ : Addition ℕ
addition_n+ = record { none = 0; plus = ◌+◌; idl = zero-add; assoc = add_assoc; comm = add_comm }

-- f 0 + f 1 + .. + f (n-1)
unfoldable pub sum : {A : Type 0} → Addition A → ℕ → (ℕ → A) → A
sum m zero f = m.none
sum m (suc n) f = m.plus (sum m n f) (f n)

-- the same over ℤ and over ℕ
abbrev pub sum_z : ℕ → (ℕ → ℤ) → ℤ
sum_z n f = sum addition_z+ n f

abbrev pub sum_n : ℕ → (ℕ → ℕ) → ℕ
sum_n n f = sum addition_n+ n f
