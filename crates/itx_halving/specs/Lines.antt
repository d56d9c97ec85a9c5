-- The lines of a stage's buffers, cited by the contracts of the crates that do a stage. Document 01, "The two stages".
-- Assumes nothing.
use Rattle.std.specs.Prelude.{◌≡◌, List, ℕ, ◌+◌, ◌*◌, ◌≤◌, ◌<◌, length, get_or, ℤ, pos, ◌+ℤ◌, nat_abs}
use Rattle.integers.specs.Z.{floor_pow, clip16}
use Rattle.integers.specs.Lists.{written}
use Rattle.evc.specs.Stages.{rounding}
use Rattle.itx_halving.specs.Line.{line}

-- x, of n places, holds the first k inputs of line j of l, each of 32 bits
pub record Gathered (x src : List ℤ) (n k l j : ℕ) : Type 0 where
  pub long : length x ≡ n
  pub at : (i : ℕ) → i < k → line x i ≡ get_or src (i * l + j) (pos 0)
  pub small : (i : ℕ) → i < k → nat_abs (line x i) ≤ 2147483648

-- the tail of stage two: a sum rounded, shifted and clipped
abbrev pub shifted : ℕ → ℤ → ℤ
shifted shift z = clip16 (floor_pow (z +ℤ rounding shift) shift)

-- add is the rounding number of an allowed shift
pub record Amount (add : ℤ) (shift : ℕ) : Type 0 where
  pub most : shift ≤ 31
  pub is : add ≡ rounding shift

-- the first n of e are sums of 64 terms at most
pub record Bounded (e : List ℤ) (n : ℕ) : Type 0 where
  pub small : (k : ℕ) → k < n → nat_abs (get_or e k (pos 0)) ≤ 17592186044416

-- d is d₀ with n places more written, from place a on: where d₀ has G in its first a places, d has it in n more
pub record Next (d₀ d : List ℤ) (a n : ℕ) (g : ℕ → ℤ) : Type 0 where
  pub long : length d ≡ length d₀
  pub after : (G : ℕ → ℤ) (l : List ℤ) → a + n ≤ length l → d₀ ≡ written a G l → ((k : ℕ) → k < n → g k ≡ G (a + k)) → d ≡ written (a + n) G l

-- line j of a stage of size N, which leaves G, is stored
abbrev pub Lined : (ℕ → ℤ) → List ℤ → List ℤ → ℕ → ℕ → Type 0
Lined G d₀ d N j = Next d₀ d (j * N) N (λ k. G (j * N + k))

-- both buffers have room for l lines of n places
pub record StageRoom (src dst : List ℤ) (n l : ℕ) : Type 0 where
  pub src-room : n * l ≤ length src
  pub dst-room : n * l ≤ length dst
