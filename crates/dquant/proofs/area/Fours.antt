-- A loop that dequantizes four coefficients of an area at a time, each four as a part lent on. Assumes nothing.
use Prim.Native.Nat.{ℕ, ◌+◌, ◌*◌, ◌-◌, ◌/◌, ◌%◌, ◌≤◌, ◌<◌}
use native.Mathlib.Omega.{arith}
use mathlib.Core.Path.{◌≡◌, ap, ◌∙◌}
use mathlib.Core.List.{List, map}
use lib.IntN.{ℤ, pos}
use lib.ListN.{length, get_or, take, drop, length-map, get_or-map}
use lib.Seq.{get_or-take, get_or-drop}
use Rattle.integers.specs.Lists.{tab}
use Rattle.integers.proofs.Written.{is-tab, written_read, written-map, written_count}
use Rattle.integers.proofs.Grid.{Wrote, wrote-long, row_room, row-long, wrote-end}

module _ (f : ℤ → ℤ) (l cur : List ℤ) (j : ℕ) (w : Wrote 4 (length l / 4) (λ k. f (get_or l k (pos 0))) l cur j) where
  -- the fours before are done, so that what the next four's loop maps is still the entry's
  pub four : j < length l / 4 → (row : List ℤ) → row ≡ map f (take (j * 4 + 4 - j * 4) (drop (j * 4) cur)) → row ≡ tab 4 (λ i. f (get_or l (j * 4 + i) (pos 0)))
  four p row e =
      e ∙ is-tab 4 _ _ (f (pos 0)) (length-map (take (j * 4 + 4 - j * 4) (drop (j * 4) cur)) f ∙ row-long w p)
      (λ k q. get_or-map f (take (j * 4 + 4 - j * 4) (drop (j * 4) cur)) k (pos 0)
      ∙ ap f
      (get_or-take (j * 4 + 4 - j * 4) (drop (j * 4) cur) k (pos 0) (omega arith) ∙ get_or-drop (j * 4) cur k (pos 0)
      ∙ written_read (j * 4) _ l cur (j * 4 + k) (pos 0) (omega (arith, row_room w p, wrote-long w)) (omega arith) w.is))

  -- all fours are done
  pub fours-end : length l % 4 ≡ 0 → length l / 4 ≤ j → cur ≡ map f l
  fours-end z p =
      let e : length l / 4 * 4 ≡ length l = omega arith in
      written_count _ _ _ l cur e (wrote-end w p) ∙ written-map f l (pos 0)
