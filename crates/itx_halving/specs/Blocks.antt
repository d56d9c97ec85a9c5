-- A block of 16 lines, from the input's line j0 on, gathered and stored: cited by the contracts of the crates that do 16 lines at a time. Document 01,
-- "The two stages". Assumes nothing.
use Rattle.std.specs.Prelude.{◌≡◌, List, ℕ, ◌+◌, ◌*◌, ◌/◌, ◌%◌, ◌≤◌, ◌<◌, length, get_or, ℤ, pos}
use Rattle.itx_halving.specs.Lines.{Next}

-- ---- gathered
-- input k of the block's line j
abbrev pub input : List ℤ → ℕ → ℕ → ℕ → ℕ → ℤ
input src l j0 k j = get_or src (k * l + j0 + j) (pos 0)

-- s is s₀ with g in n places from `to` on; what stands before them is as it was
pub record Run (s₀ s : List ℤ) (to n : ℕ) (g : ℕ → ℤ) : Type 0 where
  pub long : length s ≡ length s₀
  pub done : (j : ℕ) → j < n → get_or s (to + j) (pos 0) ≡ g j
  pub before : (i : ℕ) → i < to → get_or s i (pos 0) ≡ get_or s₀ i (pos 0)

-- s is a block that has f k j in lane j of its first n rows, p places from row to row
pub record Rows (s : List ℤ) (p n : ℕ) (f : ℕ → ℕ → ℤ) : Type 0 where
  pub long : length s ≡ 1024
  pub at : (k j : ℕ) → k < n → j < 16 → get_or s (k * p + j) (pos 0) ≡ f k j

-- lines j0 .. j0 + 15 of l, of n inputs each, lie within the input, and n rows, p places from row to row, within the block s
pub record Source (src s : List ℤ) (n p l j0 : ℕ) : Type 0 where
  pub long : length s ≡ 1024
  pub rows : n * p ≡ 1024
  pub apart : 16 ≤ p
  pub among : j0 + 16 ≤ l
  pub src-room : n * l ≤ length src

-- ---- stored
-- of sums that stand by place and lane, the one that goes to place i of the block's output: line i / N, place i % N
abbrev pub crossed : ℕ → List ℤ → ℕ → ℤ
crossed N e i = get_or e (i % N * 16 + i / N) (pos 0)

-- lines j0 .. j0 + 15 of l, of N places each, lie within both buffers
pub record BlockRoom (src dst : List ℤ) (N l j0 : ℕ) : Type 0 where
  pub among : j0 + 16 ≤ l
  pub src-room : N * l ≤ length src
  pub dst-room : j0 * N + 16 * N ≤ length dst

-- those lines of a stage of size N, which leaves G, are stored
abbrev pub Blocked : (ℕ → ℤ) → List ℤ → List ℤ → ℕ → ℕ → Type 0
Blocked G d₀ d N j0 = Next d₀ d (j0 * N) (16 * N) (λ i. G (j0 * N + i))
