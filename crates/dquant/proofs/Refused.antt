-- What a call whose shift is refused answers and leaves, for the check to find by itself. Assumes nothing.
use Prim.Native.Nat.{ℕ, ◌<◌}
use mathlib.Core.Path.{◌≡◌}
use mathlib.Core.Bool.{true, false, ◌||◌}
use mathlib.Core.List.{List}
use lib.Dec.{ltb}
use lib.IntN.{ℤ}
use lib.ListN.{length}
use borrow.Author.Tests.{lt-ltb}
use Rattle.integers.proofs.Bools.{or-neither}
use Rattle.evc.specs.Dequantizer.{dquant_tests, dquant_number, dquant_exit}
use Rattle.evc.proofs.Tests.{refused-at}

module _ (logw logh shift : ℕ) (sized : ltb 6 logw || ltb 6 logh ≡ false) (high : 31 < shift) where
  pub shift_number : (n : ℕ) → 3 ≡ dquant_number n logw logh shift
  unfolding dquant_number
  shift_number n =
      let o = or-neither (ltb 6 logw) (ltb 6 logh) sized in
      (refused-at (dquant_tests n logw logh shift) 2 n n (o.0, (o.1, lt-ltb 31 shift high))).0

  pub shift_exit : (by offset : ℤ) (l : List ℤ) → l ≡ dquant_exit logw logh by offset shift l
  unfolding dquant_number dquant_exit
  shift_exit by offset l =
      let o = or-neither (ltb 6 logw) (ltb 6 logh) sized in
      (refused-at (dquant_tests (length l) logw logh shift) 2 _ l (o.0, (o.1, lt-ltb 31 shift high))).1
