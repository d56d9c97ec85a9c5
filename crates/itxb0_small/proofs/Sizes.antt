-- Laws of the sizes that go by straight code. Assumes nothing.
use mathlib.Core.Path.{◌≡◌}
use Prim.Native.Nat.{ℕ}
use Rattle.std.proofs.Common.{inl, inr}
use Rattle.itxb0_small.specs.Sizes.{Size}

pub eight : (n : ℕ) → Size n → (n ≡ 2 → ⊥) → (n ≡ 4 → ⊥) → n ≡ 8
eight n (inl p) f g = absurd (f p)
eight n (inr (inl p)) f g = absurd (g p)
eight n (inr (inr p)) f g = p
