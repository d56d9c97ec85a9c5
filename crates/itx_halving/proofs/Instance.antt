-- Document 01's table of each size, as it lies in the whole: the instance of the halving that the stages use. Assumes nothing.
use mathlib.Core.Path.{◌≡◌, sym, ap, ◌∙◌}
use mathlib.Core.List.{List}
use Prim.Native.Nat.{ℕ, zero, suc, ◌+◌, ◌*◌, ◌-◌, ◌/◌, ◌^◌, ◌≤◌, ◌<◌}
use native.Mathlib.Omega.{arith}
use native.Mathlib.Nat.{mul-zero, mul-one, add-mul, mul-add, mul-le-mul_left, le_trans}
use lib.Dec.{eqb, eqb→eq}
use lib.Pow.{pow_pos}
use lib.ListN.{length}
use lib.IntN.{ℤ, neg_ℤ, ◌*ℤ◌}
use Rattle.integers.specs.Sum.{addition_z+}
use Rattle.integers.proofs.Every.{below_at}
use Rattle.integers.proofs.Bound.{Within, within-mul, within-mono}
use Rattle.integers.proofs.Sum.{sum-ext, within-sum}
use Rattle.integers.proofs.Written.{tab-length}
use Rattle.evc.specs.Table.{tm}
use Rattle.itx_table.specs.Flat.{flat}
use Rattle.itx_table.specs.Mirror.{Mirrored}
use Rattle.itx_table.proofs.Rule.{entry, tm64-within}
use Rattle.itx_table.proofs.Mirror.{tm-mirrored}
use Rattle.itx_halving.specs.Line.{rows, line, dot, Inputs, Table, Sums}
use Rattle.itx_halving.specs.Lines.{Bounded}
use Rattle.itx_halving.proofs.Bounds.{term, multiple, odd-multiple}

-- T and U are the same N by N table
abbrev pub Same : ℕ → (ℕ → ℕ → ℤ) → (ℕ → ℕ → ℤ) → Type 0
Same N T U = (k n : ℕ) → k < N → n < N → T k n ≡ U k n

some : (m s N : ℕ) → (m + m) * s ≡ N → 0 < N → 0 < s
some m zero N e h = let z : ⊥ = omega (arith, mul-zero (m + m)) in absurd z
some m (suc s) N e h = omega arith

-- a level's rows and columns are the table's
module _ (m s k n N : ℕ) (e : (m + m) * s ≡ N) (p : 0 < N) (hk : k < m) (hn : n < m) where
  even-row : k * (s + s) < N
  even-row = multiple k m (s + s) N hk (omega (arith, some m s N e p)) (omega (arith, add-mul m m s, mul-add m s s))

  odd-row : suc (k + k) * s < N
  odd-row = rw (← e) (odd-multiple k m s hk (some m s N e p))

pub mirrored-ext : {N : ℕ} {T U : ℕ → ℕ → ℤ} → 0 < N → Same N T U → Mirrored N U → Mirrored N T
mirrored-ext {N} {T} {U} p e t =
    record {
      even = λ m s k n l z hk hn. e _ _ (even-row m s k n N l p hk hn) (far m s n l hn) ∙ t.even m s k n l z hk hn ∙ sym (e _ _ (even-row m s k n N l p hk hn) (column m s n l hn));
      odd =
          λ m s k n l z hk hn.
          e _ _ (odd-row m s k n N l p hk hn) (far m s n l hn) ∙ t.odd m s k n l z hk hn ∙ ap neg_ℤ (sym (e _ _ (odd-row m s k n N l p hk hn) (column m s n l hn)));
      two = λ q. let h = t.two q in (
        e 0 1 p (omega arith) ∙ h.0 ∙ sym (e 0 0 p p),
        (e 1 0 (omega arith) p ∙ h.1.0 ∙ sym (e 0 0 p p), e 1 1 (omega arith) (omega arith) ∙ h.1.1 ∙ ap neg_ℤ (sym (e 0 0 p p))),
      );
    }
  where
    most : (m s : ℕ) → (m + m) * s ≡ N → m + m ≤ N
    most m s l = omega (arith, mul-le-mul_left {m = 1} {n = s} (m + m) (some m s N l p))

    column : (m s n : ℕ) → (m + m) * s ≡ N → n < m → n < N
    column m s n l h = omega (arith, most m s l)

    far : (m s n : ℕ) → (m + m) * s ≡ N → n < m → m + m - suc n < N
    far m s n l h = omega (arith, most m s l)

-- sums with the one are sums with the other
pub sums-ext : {N : ℕ} {T U : ℕ → ℕ → ℤ} {e x : List ℤ} → Same N T U → Sums e T 1 N x → Sums e U 1 N x
unfolding dot
sums-ext {N} {T} {U} {e} {x} h s = record { long = s.long; at = λ n r. s.at n r ∙ dots n r }
  where
    dots : (n : ℕ) → n < N → dot T 1 N n (line x) ≡ dot U 1 N n (line x)
    dots n r = sum-ext addition_z+ N _ _ (λ k l. ap (λ (z : ℤ). z *ℤ line x (k * 1)) (h (k * 1) n (omega (arith, mul-one k)) r))

-- ---- size N takes every p-th of the 64 rows, where N·p is 64
flat-length : length flat ≡ 4096
unfolding flat
flat-length = tab-length 4096 _

module _ (N p : ℕ) (whole : N * p ≡ 64) (is : 64 / N ≡ p) (h : 0 < p) (s : 0 < N) where
  row : (k : ℕ) → k < N → k * p < 64
  row k r = multiple k N p 64 r h (omega arith)

  column : (n : ℕ) → n < N → n < 64
  column n r = omega (arith, mul-le-mul_left {m = 1} {n = p} N h)

  flat-same : Same N (rows flat (64 * p)) (tm N)
  flat-same k n hk hn = let e : k * (64 * p) + n ≡ k * p * 64 + n = omega arith in rw (is, e) (entry (k * p) n (row k hk) (column n hn))

  flat-table : Mirrored N (tm N) → Table flat (64 * p) N
  flat-table t = record {
    mirrored = mirrored-ext s flat-same t;
    room = λ k n hk hn. omega (arith, flat-length, row k hk, column n hn);
    bytes = λ k n hk hn. rw (flat-same k n hk hn) (le_trans (tm64-within (k * (64 / N)) n) (omega arith));
  }

-- of size 2^l, as the code has it: 64·2^(6-l) places from row to row
module _ (l : ℕ) (h : l ≤ 6) (t : List ℤ) (is : t ≡ flat) where
  sizes : (2 ^ l * 2 ^ (6 - l) ≡ 64) × (64 / 2 ^ l ≡ 2 ^ (6 - l))
  sizes = (
    eqb→eq _ _ (below_at (λ l. eqb (2 ^ l * 2 ^ (6 - l)) 64) 7 tt l (omega arith)),
    eqb→eq _ _ (below_at (λ l. eqb (64 / 2 ^ l) (2 ^ (6 - l))) 7 tt l (omega arith)),
  )

  pub built-in-table : Table t (64 * 2 ^ (6 - l)) (2 ^ l)
  built-in-table = rw is (flat-table (2 ^ l) (2 ^ (6 - l)) sizes.0 sizes.1 (pow_pos (6 - l)) (pow_pos l) (tm-mirrored l h))

  pub built-in-same : Same (2 ^ l) (rows t (64 * 2 ^ (6 - l))) (tm (2 ^ l))
  built-in-same = rw is (flat-same (2 ^ l) (2 ^ (6 - l)) sizes.0 sizes.1 (pow_pos (6 - l)) (pow_pos l))

  pub built-in-sums : {e x : List ℤ} → Sums e (rows t (64 * 2 ^ (6 - l))) 1 (2 ^ l) x → Sums e (tm (2 ^ l)) 1 (2 ^ l) x
  built-in-sums s = sums-ext built-in-same s

-- a sum of stage two has room for its rounding number
pub built-in-bounded : (N : ℕ) {e x : List ℤ} → Inputs x N → Sums e (tm N) 1 N x → Bounded e N
unfolding dot
built-in-bounded N {e} {x} v s = record { small = λ n r. rw (s.at n r) (within-mono {m = N * term} {n = 17592186044416} (omega (arith, v.most)) (within-sum N term _ (λ k h. one k n h))).bound }
  where
    one : (k n : ℕ) → k < N → Within term (tm N (k * 1) n *ℤ line x (k * 1))
    one k n h =
        within-mul {m = 128} {n = 2147483648} {x = tm N (k * 1) n} {y = line x (k * 1)} (record { bound = le_trans (tm64-within (k * 1 * (64 / N)) n) (omega arith) })
        (record { bound = (v.input (k * 1) (omega (arith, mul-one k))).small })
