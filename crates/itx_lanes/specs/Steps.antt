-- What the helpers promise each other. A lane is seen as a line of 64 numbers, so that the records of the halving (itx_halving, specs/Line.antt) speak
-- of it: size m, on its way to 2m, has the stride 32/m in the 64 by 64 table. Assumes nothing.
use Rattle.std.specs.Prelude.{◌≡◌, ◌≢◌, List, ℕ, suc, ◌+◌, ◌*◌, ◌-◌, ◌/◌, ◌<◌, ◌≤◌, length, get_or, set, ℤ, pos, ◌+ℤ◌, ◌-ℤ◌, ◌*ℤ◌, nat_abs}
use Rattle.integers.specs.Sum.{sum_z}
use Rattle.integers.specs.Lists.{tab}
use Rattle.itx_table.specs.Flat.{flat}
use Rattle.itx_halving.specs.Line.{rows, line, dot, odd, Sums, Part}
use Rattle.itx_lanes.specs.Lanes.{lane}

-- lane j as a list
unfoldable pub lane_list : List ℤ → ℕ → List ℤ
lane_list e j = tab 64 (lane e j)

-- the table as it lies in its list
abbrev pub flat_entry : ℕ → ℕ → ℤ
flat_entry = rows flat 64

-- the first k terms of the odd half at place n of lane j, at stride q
abbrev pub half : List ℤ → ℕ → ℕ → ℕ → ℕ → ℤ
half s j q k n = odd flat_entry q k n (line (lane_list s j))

-- the inputs of lane j in the rows at multiples of q have 16 bits
pub record Narrow (s : List ℤ) (q j : ℕ) : Type 0 where
  pub small : (k : ℕ) → k * q < 64 → nat_abs (line (lane_list s j) (k * q)) ≤ 32768

-- the first k odd multiples of q are rows of the table
pub record Rows (q k : ℕ) : Type 0 where
  pub some : 0 < q
  pub rows : (k + k) * q ≤ 64

-- r is the input of lane j in row k, of 16 bits
pub record Input (s : List ℤ) (k j : ℕ) (r : ℤ) : Type 0 where
  pub is : r ≡ line (lane_list s j) k
  pub small : nat_abs r ≤ 32768

-- x holds m inputs of lane j: those in the rows at the first odd multiples of q
pub record Picks (x s : List ℤ) (q m j : ℕ) : Type 0 where
  pub long : length x ≡ m
  pub at : (k : ℕ) → k < m → Input s (suc (k + k) * q) j (get_or x k (pos 0))

-- the first k terms of the odd half at place n, of inputs that are picked
unfoldable pub terms : List ℤ → ℕ → ℕ → ℕ → ℤ
terms x q k n = sum_z k (λ i. flat_entry (suc (i + i) * q) n *ℤ get_or x i (pos 0))

-- as many terms as x has numbers can be added at place n
pub record Terms (t x : List ℤ) (q n : ℕ) : Type 0 where
  pub table : t ≡ flat
  pub rows : Rows q (length x)
  pub column : n < 64
  pub small : (k : ℕ) → k < length x → nat_abs (get_or x k (pos 0)) ≤ 32768

-- the product of size 2 at place n, whose inputs have 16 bits
pub record First (s : List ℤ) (n j : ℕ) (r : ℤ) : Type 0 where
  pub is : r ≡ dot flat_entry 32 2 n (line (lane_list s j))
  pub narrow : Narrow s 32 j

-- lane j of e on its way from size m to size 2m: n places and their mirrors are done
abbrev pub Lane : List ℤ → List ℤ → ℕ → ℕ → ℕ → Type 0
Lane s e m n j = Part (lane_list e j) flat_entry (32 / m) m n (lane_list s j)

-- size 2m is a level of the table, and e has room for it
pub record Halving (e : List ℤ) (m : ℕ) : Type 0 where
  pub whole : (m + m) * (32 / m) ≡ 64
  pub size : 2 ≤ m
  pub room : (m + m) * 16 ≤ length e

-- lane j of it; the inputs of size m have 16 bits
pub record OfLane (s e : List ℤ) (m n j : ℕ) : Type 0 where
  pub level : Halving e m
  pub among : j < 16
  pub narrow : Narrow s (32 / m + 32 / m) j
  pub part : Lane s e m n j

-- the same with its odd inputs picked
pub record Given (s x e : List ℤ) (m n j : ℕ) : Type 0 where
  pub lane : OfLane s e m n j
  pub picks : Picks x s (32 / m) m j

-- so it is of some block
pub record Ready (t x e : List ℤ) (m n j : ℕ) : Type 0 where
  pub table : t ≡ flat
  pub block : List ℤ
  pub given : Given block x e m n j

-- place n of lane j holds the even half and z is the odd half: both small enough to add
pub record Halves (e : List ℤ) (m n j : ℕ) (z : ℤ) : Type 0 where
  pub size : m ≤ 32
  pub room : (m + m) * 16 ≤ length e
  pub place : n < m
  pub among : j < 16
  pub even : nat_abs (get_or e (n * 16 + j) (pos 0)) ≤ 94371840
  pub odd : nat_abs z ≤ 94371840

-- their sum at the place, their difference at its mirror
unfoldable pub crossed : List ℤ → ℕ → ℕ → ℕ → ℤ → List ℤ
crossed e m n j z =
    let v = get_or e (n * 16 + j) (pos 0) in
    set (set e (n * 16 + j) (v +ℤ z)) ((2 * m - 1 - n) * 16 + j) (v -ℤ z)

-- e is e₀ but for lane j
pub record Kept (e₀ e : List ℤ) (j : ℕ) : Type 0 where
  pub long : length e ≡ length e₀
  pub other : (i : ℕ) → i < 16 → i ≢ j → lane_list e i ≡ lane_list e₀ i

-- and lane j has n places done
pub record Moved (e₀ s e : List ℤ) (m n j : ℕ) : Type 0 where
  pub lane : OfLane s e m n j
  pub kept : Kept e₀ e j

-- whatever block the inputs were picked from, the places from a to b are done; and e is ready for the rest
pub record Stepped (t x e₀ e : List ℤ) (m a b j : ℕ) : Type 0 where
  pub ready : Ready t x e m b j
  pub done : (s : List ℤ) → Given s x e₀ m a j → Moved e₀ s e m b j

-- every lane has n places done; the inputs in the rows at multiples of r have 16 bits
pub record All (s e : List ℤ) (m n r : ℕ) : Type 0 where
  pub level : Halving e m
  pub part : (j : ℕ) → j < 16 → Lane s e m n j
  pub narrow : (j : ℕ) → j < 16 → Narrow s r j

-- every lane holds size m, of every (64/m)th row and input; these inputs have 16 bits
pub record Sized (s e : List ℤ) (m : ℕ) : Type 0 where
  pub sums : (j : ℕ) → j < 16 → Sums (lane_list e j) flat_entry (64 / m) m (lane_list s j)
  pub narrow : (j : ℕ) → j < 16 → Narrow s (64 / m) j
