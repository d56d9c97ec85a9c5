-- The sums of stage two, cited by the contracts of src/wide.rt. Document 01, "The two stages". Assumes nothing.
use Rattle.std.specs.Prelude.{◌≡◌, List, ℕ, ◌<◌, ◌≤◌, length, get_or, ℤ, pos, ◌+ℤ◌, nat_abs}
use Rattle.evc.specs.Stages.{product}

-- the largest product of a signed byte and an input of 32 bits
abbrev pub wide : ℕ
wide = 274877906944

-- eight of them and a rounding number: no sum of size 8 is larger
abbrev pub most8 : ℕ
most8 = 2201170739200

-- r holds the N sums of line j, with c added to each, at most B in size
pub record Raised (B : ℕ) (T : ℕ → ℕ → ℤ) (N l : ℕ) (x : List ℤ) (j : ℕ) (c : ℤ) (r : List ℤ) : Type 0 where
  pub long : length r ≡ N
  pub at : (n : ℕ) → n < N → get_or r n (pos 0) ≡ product T N l x j n +ℤ c
  pub small : (n : ℕ) → n < N → nat_abs (get_or r n (pos 0)) ≤ B
