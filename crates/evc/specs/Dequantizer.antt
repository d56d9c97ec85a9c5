-- Scale and dequantization. Document 01, "Scale and dequantization". Assumes nothing.
use Rattle.std.specs.Prelude.{ℕ, ◌*◌, ◌/◌, ◌%◌, ◌^◌, List, [], ◌∷◌, ◌++◌, map, ltb, length, get_or, take, drop, ℤ, pos, ◌+ℤ◌, ◌*ℤ◌}
use Rattle.integers.specs.Z.{floor_pow, clip16}
use Rattle.order.specs.Jobs.{if_accepted}
use Rattle.evc.specs.declared.Refusal.TheVariants.{Qp, Shift, Area}
use Rattle.evc.specs.Answers.{Reply}
use Rattle.evc.specs.Tests.{Test, ◌when◌, first, reply, log_sizes, samples_of}

-- ---- the scale of a qp
abbrev pub scale_numbers : List ℕ
scale_numbers = 40 ∷ 45 ∷ 51 ∷ 57 ∷ 64 ∷ 71 ∷ []

unfoldable pub scale : ℕ → ℤ
scale qp = pos (get_or scale_numbers (qp % 6) 0 * 2 ^ (qp / 6))

abbrev pub scale_tests : ℕ → List Test
scale_tests qp = (Qp when ltb 63 qp) ∷ []

unfoldable pub scale_reply : ℕ → Reply ℤ
scale_reply qp = reply (first (scale_tests qp)) (scale qp)

-- ---- one coefficient: v·scale + offset, divided by 2^shift toward minus infinity, clipped
unfoldable pub dequantized : ℤ → ℤ → ℕ → ℤ → ℤ
dequantized by offset shift v = clip16 (floor_pow (v *ℤ by +ℤ offset) shift)

-- ---- evc_dquant on a buffer of n samples, whose area is its first 2^(logw+logh)
abbrev pub dquant_tests : ℕ → ℕ → ℕ → ℕ → List Test
dquant_tests n logw logh shift = log_sizes logw logh ++ ((Shift when ltb 31 shift) ∷ (Area when ltb n (samples_of logw logh)) ∷ [])

unfoldable pub dquant_number : ℕ → ℕ → ℕ → ℕ → ℕ
dquant_number n logw logh shift = first (dquant_tests n logw logh shift)

-- the buffer at the end: the area's coefficients dequantized, the rest as it was
unfoldable pub dquant_exit : ℕ → ℕ → ℤ → ℤ → ℕ → List ℤ → List ℤ
dquant_exit logw logh by offset shift l =
    if_accepted (dquant_number (length l) logw logh shift)
    (map (dequantized by offset shift) (take (samples_of logw logh) l) ++ drop (samples_of logw logh) l)
    l
