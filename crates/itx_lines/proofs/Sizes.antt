-- Laws of the sizes that go line by line. Assumes nothing.
use mathlib.Core.Path.{◌≡◌}
use Prim.Native.Nat.{ℕ, ◌≤◌}
use native.Mathlib.Omega.{arith}
use Rattle.std.proofs.Common.{inl, inr}
use Rattle.itx_lines.specs.Sizes.{Size}

pub sixty_four : (n : ℕ) → Size n → (n ≡ 16 → ⊥) → (n ≡ 32 → ⊥) → n ≡ 64
sixty_four n (inl p) f g = absurd (f p)
sixty_four n (inr (inl p)) f g = absurd (g p)
sixty_four n (inr (inr p)) f g = p

pub size-most : (n : ℕ) → Size n → n ≤ 64
size-most n (inl p) = omega arith
size-most n (inr (inl p)) = omega arith
size-most n (inr (inr p)) = omega arith
