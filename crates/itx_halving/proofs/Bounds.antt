-- Where the code reads table and line, and how large its sums are: a term is within 128 · 2^31, so that 64 of them fit 64 bits.
-- Assumes nothing.
use mathlib.Core.Path.{◌≡◌, sym}
use mathlib.Core.List.{List}
use Prim.Native.Nat.{ℕ, suc, ◌+◌, ◌*◌, ◌≤◌, ◌<◌}
use native.Mathlib.Omega.{arith}
use native.Mathlib.Nat.{suc-mul, add-mul, mul-add, mul-le-mul_right, mul-le-mul_left}
use native.Mathlib.Numerals.{add-one}
use lib.IntN.{ℤ, ◌+ℤ◌, ◌*ℤ◌}
use Rattle.integers.specs.Sum.{addition_z+}
use Rattle.integers.proofs.Bound.{Within, within-mul, within-mono}
use Rattle.integers.proofs.Sum.{sum_step, within-sum}
use Rattle.itx_halving.specs.Line.{rows, line, dot, odd, Inputs, Table, Level}

-- the bound on a term
abbrev pub term : ℕ
term = 274877906944

-- the k-th multiple of p, of m that lie within N
pub multiple : (k m p N : ℕ) → k < m → 0 < p → m * p ≤ N → k * p < N
multiple k m p N h s r = omega (arith, suc-mul k p, mul-le-mul_right {m = suc k} {n = m} p h)

-- the k-th odd multiple of q, of m
pub odd-multiple : (k m q : ℕ) → k < m → 0 < q → suc (k + k) * q < (m + m) * q
odd-multiple k m q h s = multiple (suc (k + k)) (m + m) q ((m + m) * q) (omega arith) s (omega arith)

-- as the code has it
pub odd_number : (k : ℕ) → 2 * k + 1 ≡ suc (k + k)
odd_number k = omega arith

-- one term more of the odd half, at the code's numbers
pub odd_step : (T : ℕ → ℕ → ℤ) (q k n : ℕ) (x : ℕ → ℤ) → odd T q k n x +ℤ T ((2 * k + 1) * q) n *ℤ x ((2 * k + 1) * q) ≡ odd T q (k + 1) n x
unfolding odd
odd_step T q k n x = rw (odd_number k, add-one k) (sym (sum_step addition_z+ k _))

module _ {t x : List ℤ} {w N : ℕ} (g : Table t w N) (v : Inputs x N) where
  pub term-within : (k n : ℕ) → k < N → n < N → Within term (rows t w k n *ℤ line x k)
  term-within k n hk hn =
      within-mul {m = 128} {n = 2147483648} {x = rows t w k n} {y = line x k} (record { bound = g.bytes k n hk hn }) (record { bound = (v.input k hk).small })

  pub dot-within : (p m n : ℕ) → 0 < p → m * p ≤ N → n < N → Within (m * term) (dot (rows t w) p m n (line x))
  unfolding dot
  dot-within p m n s r hn = within-sum m term _ (λ k h. term-within (k * p) n (multiple k m p N h s r) hn)

module _ {t x : List ℤ} {w m q : ℕ} (g : Level t w x m q) where
  abbrev N : ℕ
  N = (m + m) * q

  sizes : m + m ≤ N
  sizes = omega (arith, mul-le-mul_left {m = 1} {n = q} (m + m) g.stride)

  pub half-size : m ≤ 32
  half-size = omega (arith, sizes, g.size, g.inputs.most)

  pub column : (n : ℕ) → n < m → n < N
  column n h = omega (arith, sizes)

  pub odd-within : (j n : ℕ) → j ≤ m → n < m → Within (j * term) (odd (rows t w) q j n (line x))
  unfolding odd
  odd-within j n r hn =
      within-sum j term _ (λ k h. term-within g.table g.inputs (suc (k + k) * q) n (odd-multiple k m q (omega arith) g.stride) (column n hn))

  -- both halves are within 32 terms
  pub odd-bound : (n : ℕ) → n < m → Within 8796093022208 (odd (rows t w) q m n (line x))
  odd-bound n h = within-mono (omega (arith, half-size)) (odd-within m n (omega arith) h)

  pub even-bound : (n : ℕ) → n < m → Within 8796093022208 (dot (rows t w) (q + q) m n (line x))
  even-bound n h =
      within-mono (omega (arith, half-size))
      (dot-within g.table g.inputs (q + q) m n (omega (arith, g.stride)) (omega (arith, add-mul m m q, mul-add m q q)) (column n h))
