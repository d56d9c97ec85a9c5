-- The sums of one line, cited by the contracts of the crates that make them, and the laws of the halving. A table is a function T, row k then column n; of
-- a line x, x k is input k. Document 01, "The two stages"; document 02, request Ten. Assumes nothing.
use Rattle.std.specs.Prelude.{◌≡◌, List, ℕ, suc, ◌+◌, ◌*◌, ◌-◌, ◌<◌, ◌≤◌, length, get_or, ℤ, pos, ◌*ℤ◌, nat_abs}
use Rattle.integers.specs.Sum.{sum_z}
use Rattle.itx_table.specs.Mirror.{Mirrored}

-- the product of size m at place n: every q-th row of the table with every q-th input
unfoldable pub dot : (ℕ → ℕ → ℤ) → ℕ → ℕ → ℕ → (ℕ → ℤ) → ℤ
dot T q m n x = sum_z m (λ k. T (k * q) n *ℤ x (k * q))

-- its odd half: the rows and the inputs at odd multiples of q
unfoldable pub odd : (ℕ → ℕ → ℤ) → ℕ → ℕ → ℕ → (ℕ → ℤ) → ℤ
odd T q m n x = sum_z m (λ k. T (suc (k + k) * q) n *ℤ x (suc (k + k) * q))

-- a table that lies in a list, w places from row to row
abbrev pub rows : List ℤ → ℕ → ℕ → ℕ → ℤ
rows t w k n = get_or t (k * w + n) (pos 0)

-- a list as a line
abbrev pub line : List ℤ → ℕ → ℤ
line x k = get_or x k (pos 0)

-- x has an input i, of 32 bits
pub record Small (x : List ℤ) (i : ℕ) : Type 0 where
  pub room : i < length x
  pub small : nat_abs (line x i) ≤ 2147483648

-- r is the product of a table's number and an input
pub record Term (t : List ℤ) (at : ℕ) (x : List ℤ) (i : ℕ) (r : ℤ) : Type 0 where
  pub is : r ≡ get_or t at (pos 0) *ℤ line x i
  pub small : nat_abs r ≤ 274877906944

-- x is a line of N inputs, at most 64
pub record Inputs (x : List ℤ) (N : ℕ) : Type 0 where
  pub most : N ≤ 64
  pub input : (i : ℕ) → i < N → Small x i

-- t holds an N by N table of signed bytes, w places from row to row, that is mirrored
pub record Table (t : List ℤ) (w N : ℕ) : Type 0 where
  pub mirrored : Mirrored N (rows t w)
  pub room : (k n : ℕ) → k < N → n < N → k * w + n < length t
  pub bytes : (k n : ℕ) → k < N → n < N → nat_abs (rows t w k n) ≤ 128

-- the size 2m is a level of the halving of table and line: of all 2mq rows and inputs every q-th
pub record Level (t : List ℤ) (w : ℕ) (x : List ℤ) (m q : ℕ) : Type 0 where
  pub table : Table t w ((m + m) * q)
  pub inputs : Inputs x ((m + m) * q)
  pub size : 2 ≤ m
  pub stride : 0 < q

-- e, which is as long as the line, holds the product of size m of the line x, with every q-th row and input
pub record Sums (e : List ℤ) (T : ℕ → ℕ → ℤ) (q m : ℕ) (x : List ℤ) : Type 0 where
  pub long : length e ≡ m * q
  pub at : (n : ℕ) → n < m → get_or e n (pos 0) ≡ dot T q m n (line x)

-- e on its way from size m to size 2m: n places and their mirrors are done, the others still hold size m
pub record Part (e : List ℤ) (T : ℕ → ℕ → ℤ) (q m n : ℕ) (x : List ℤ) : Type 0 where
  pub long : length e ≡ (m + m) * q
  pub low : (j : ℕ) → j < n → get_or e j (pos 0) ≡ dot T q (m + m) j (line x)
  pub high : (j : ℕ) → j < n → get_or e (m + m - suc j) (pos 0) ≡ dot T q (m + m) (m + m - suc j) (line x)
  pub rest : (j : ℕ) → n ≤ j → j < m → get_or e j (pos 0) ≡ dot T (q + q) m j (line x)

-- a level of the halving whose first n places and their mirrors are done
pub record Steps (t : List ℤ) (w : ℕ) (x e : List ℤ) (m q n : ℕ) : Type 0 where
  pub level : Level t w x m q
  pub part : Part e (rows t w) q m n x

-- where the levels start: the product of size 2, of the inputs at 0 and q, half of the line
pub record Begun (t : List ℤ) (w : ℕ) (x e : List ℤ) (q : ℕ) : Type 0 where
  pub table : Table t w (q + q)
  pub inputs : Inputs x (q + q)
  pub sums : Sums e (rows t w) q 2 x
