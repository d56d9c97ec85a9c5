-- Laws of the sizes that go line after line. Assumes nothing.
use mathlib.Core.Path.{◌≡◌}
use Prim.Native.Nat.{ℕ}
use Rattle.std.proofs.Common.{inl, inr}
use Rattle.itxb1_small.specs.Sizes.{Size}

pub four : (n : ℕ) → Size n → (n ≡ 2 → ⊥) → n ≡ 4
four n (inl p) f = absurd (f p)
four n (inr p) f = p
