-- Stage one's clip changes nothing where the input is of 16 bits and the table of signed bytes: a sum is at most 64 · 128 · 32768 in
-- magnitude, which 32 bits hold. Document 02, request Ten. Assumes nothing.
use mathlib.Core.Path.{◌≡◌}
use mathlib.Core.List.{List}
use Prim.Native.Nat.{ℕ, ◌+◌, ◌*◌, ◌/◌, ◌%◌, ◌^◌, ◌≤◌, ◌<◌}
use native.Mathlib.Omega.{arith}
use native.Mathlib.Nat.{mod-lt, le_trans}
use lib.Dec.{leb→le, leb}
use lib.Pow.{pow_pos}
use lib.ListN.{get_or}
use lib.IntN.{ℤ, pos, nat_abs}
use Rattle.integers.proofs.Bound.{within-mul, within-mono, sfits-within}
use Rattle.integers.proofs.Sum.{within-sum}
use Rattle.integers.proofs.Clip.{clip32-id}
use Rattle.integers.proofs.Every.{below_at}
use Rattle.evc.specs.Table.{tm}
use Rattle.evc.specs.Stages.{product, stage_one_at}
use Rattle.itx_table.proofs.Rule.{tm64-within}

module _ (L : ℕ) (x : List ℤ) (narrow : (i : ℕ) → nat_abs (get_or x i (pos 0)) ≤ 32768) where
  -- for any table
  pub clip32-idle : (T : ℕ → ℕ → ℤ) (N : ℕ) → 0 < N → N ≤ 64 → ((k n : ℕ) → k < N → n < N → nat_abs (T k n) ≤ 128) → (place : ℕ) → stage_one_at T N L x place ≡ product T N L x (place / N) (place % N)
  unfolding stage_one_at product
  clip32-idle T N some most bytes place =
      clip32-id (product T N L x (place / N) (place % N))
      (sfits-within {n = 268435456}
      (within-mono {m = N * 4194304} {n = 268435456} (omega arith)
      (within-sum N 4194304 _
      (λ k h.
      within-mul {m = 128} {n = 32768} {x = T k (place % N)} {y = get_or x (k * L + place / N) (pos 0)}
      (record { bound = bytes k (place % N) h (mod-lt place some) }) (record { bound = narrow (k * L + place / N) })))) tt)

  -- for document 01's
  pub tm-clip32-idle : (logn : ℕ) → logn ≤ 6 → (place : ℕ) → stage_one_at (tm (2 ^ logn)) (2 ^ logn) L x place ≡ product (tm (2 ^ logn)) (2 ^ logn) L x (place / 2 ^ logn) (place % 2 ^ logn)
  tm-clip32-idle logn h place =
      clip32-idle (tm (2 ^ logn)) (2 ^ logn) (pow_pos logn) (leb→le _ 64 (below_at (λ l. leb (2 ^ l) 64) 7 tt logn (omega arith)))
      (λ k n hk hn. le_trans (tm64-within (k * (64 / 2 ^ logn)) n) (omega arith)) place
