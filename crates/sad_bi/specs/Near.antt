-- What the loops over packed blocks add up: the differences of values that are first cut to what 16 bits can subtract. Where no mark has more
-- than 14 bits nothing was cut, and these are the differences of specs/Totals.antt. Cited by the contracts of src/near.rt. Assumes nothing.
use Rattle.std.specs.Prelude.{◌≡◌, ℕ, ◌+◌, ◌*◌, ◌%◌, ◌^◌, ◌≤◌, cond, List, length, ℤ, pos, ◌-ℤ◌, neg_ℤ, nat_abs}
use Rattle.evc.specs.Planes.{is_too_low}

-- of a bi-prediction value, of which none is below -16,384, and a sample cut to 14 bits
unfoldable pub raise : ℤ → ℤ
raise v = cond (is_too_low v) (neg_ℤ (pos 16384)) v

unfoldable pub near_bi : ℤ → ℕ → ℕ
near_bi v q = nat_abs (raise v -ℤ pos (q % 2 ^ 14))

-- two runs of n and again n values
pub record TwoRuns {A B : Type 0} (n : ℕ) (a : List A) (b : List B) : Type 0 where
  pub one : length a ≡ n + n
  pub two : length b ≡ n + n
  pub small : n ≤ 256

-- some of them one after another, from a start on in the second buffer
pub record InRuns (n count m k start : ℕ) : Type 0 where
  pub small : n ≤ 256
  pub few : count ≤ 64
  pub one : count * (n + n) ≤ m
  pub two : start + count * (n + n) ≤ k
