-- The invariant of every loop that adds and ORs: after k of w turns, of which each adds at most b, `Totalled` holds of the first k places. Its start,
-- step and end, and that no sum wraps, of at most 64 turns. Assumes nothing.
use mathlib.Core.Path.{◌≡◌, ◌∙◌}
use Prim.Native.Nat.{ℕ, ◌+◌, ◌*◌, ◌≤◌, ◌<◌}
use native.Mathlib.Nat.{add-mul, mul-le-mul_right}
use native.Mathlib.Omega.{arith}
use lib.Bits.{bit_or}
use Rattle.integers.specs.Sum.{addition_n+, sum_n}
use Rattle.integers.specs.Or.{addition_or, or_n}
use Rattle.integers.proofs.Loop.{Summed, summed-start, summed-step, summed-end}
use Rattle.block_rows.specs.Totals.{Totalled}

pub record Running (b w : ℕ) (f g : ℕ → ℕ) (sum any k : ℕ) : Type 0 where
  pub sums : Summed addition_n+ w f sum k
  pub marks : Summed addition_or w g any k
  pub few : sum ≤ k * b

module _ {b w : ℕ} {f g : ℕ → ℕ} where
  pub running-start : Running b w f g 0 0 0
  running-start = record { sums = summed-start; marks = summed-start; few = omega arith }

  pub running-step : {s m v n k : ℕ} → Running b w f g s m k → k < w → v ≡ f k → n ≡ g k → v ≤ b → Running b w f g (s + v) (bit_or m n) (k + 1)
  running-step {k = k} r h p q l =
      record { sums = summed-step r.sums h p; marks = summed-step r.marks h q; few = omega (arith, r.few, l, add-mul k 1 b) }

  -- with one summand more the sum is still small
  pub running-next : {s m v k : ℕ} → Running b w f g s m k → k < w → w ≤ 64 → v ≤ b → s + v ≤ 64 * b
  running-next {k = k} r h l p =
      let q : (k + 1) * b ≤ 64 * b = mul-le-mul_right b (omega arith) in
      omega (arith, r.few, add-mul k 1 b)

  pub running-end : {s m k : ℕ} → Running b w f g s m k → w ≤ k → w ≤ 64 → Totalled (64 * b) w f g s m
  running-end {k = k} r h l =
      let p = r.sums.most in
      let q : k * b ≤ 64 * b = mul-le-mul_right b (omega arith) in
      record { total = summed-end r.sums h; marks = summed-end r.marks h; most = omega (arith, r.few) }

  -- a turn that adds a row
  pub running-row :
      {s m v n k u : ℕ} {p q : ℕ → ℕ} → Running b w f g s m k → k < w → Totalled b u p q v n → sum_n u p ≡ f k → or_n u q ≡ g k →
      Running b w f g (s + v) (bit_or m n) (k + 1)
  running-row r h t d e = running-step r h (t.total ∙ d) (t.marks ∙ e) t.most
