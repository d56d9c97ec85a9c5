-- A block of zeros that is cut from a longer one, and the two ends of `both_stages`. Assumes nothing.
use Prim.Native.Nat.{ℕ, ◌+◌, ◌-◌, ◌≤◌, ◌<◌}
use native.Mathlib.Omega.{arith}
use mathlib.Core.Path.{◌≡◌, sym, ap, ◌∙◌}
use mathlib.Core.List.{List}
use lib.IntN.{ℤ, pos}
use lib.ListN.{length, take, replicate, length-replicate, replicate-append-replicate}
use lib.Seq.{take_at}
use borrow.Author.Tests.{lt-ltb, le-ltb}
use Rattle.evc.specs.Stages.{itxb0_exit, itxb1_exit}
use Rattle.itx.specs.Both.{through, both_exit}

cut : (n k : ℕ) → k ≤ n → take k (replicate n (pos 0)) ≡ replicate k (pos 0)
cut n k h =
    let e : k + (n - k) ≡ n = omega arith in
    ap (λ (m : ℕ). take k (replicate m (pos 0))) (sym e)
    ∙ ap (take k) (sym (replicate-append-replicate k (n - k) (pos 0)))
    ∙ take_at (replicate k (pos 0)) _ k (length-replicate k (pos 0))

module _ (logw logh shift : ℕ) (l : List ℤ) where
  pub by-zeros : (n : ℕ) → length l ≤ n → (x : List ℤ)
      → x ≡ itxb1_exit logw logh shift (itxb0_exit logh logw l (take (length l) (replicate n (pos 0)))) l → x ≡ through logw logh shift l
  unfolding through
  by-zeros n h x e = e ∙ ap (λ (z : List ℤ). itxb1_exit logw logh shift (itxb0_exit logh logw l z) l) (cut n (length l) h)

  pub taken : length l ≤ 4096 → through logw logh shift l ≡ both_exit logw logh shift l
  unfolding both_exit
  taken h = rw (le-ltb 4096 (length l) h)

  pub left : 4096 < length l → l ≡ both_exit logw logh shift l
  unfolding both_exit
  left h = rw (lt-ltb 4096 (length l) h)
