-- Samples that are cut to the depth's bits: how large what they add is, and that nothing is cut where no sample is too large. Assumes nothing.
use mathlib.Core.Path.{◌≡◌, sym, ap, ap₂, ◌∙◌}
use Prim.Native.Nat.{ℕ, ◌+◌, ◌*◌, ◌-◌, ◌/◌, ◌%◌, ◌^◌, ◌≤◌, ◌<◌}
use native.Mathlib.Nat.{le_trans, mul-le-mul, mul-lt-mul_of_pos_right, mod-lt, mod-eq_of_lt}
use native.Mathlib.Omega.{arith}
use lib.Bits.{bit_and, and_mask}
use lib.Pow.{pow_pos, pow_mono, pow-add, shr_lt}
use mir.Syntax.{w16}
use Rattle.integers.proofs.Bits.{one_shl}
use Rattle.integers.proofs.Parts.{abs-dif-le}
use Rattle.block_rows.specs.Totals.{apart}
use Rattle.ssd.specs.Squares.{squared, squared_low}

-- the mask that the code makes keeps the last bits
pub cut : (p depth : ℕ) → depth < 16 → bit_and p ((1 * 2 ^ depth) % 2 ^ 16 - 1) ≡ p % 2 ^ depth
cut p depth h = ap (λ (m : ℕ). bit_and p (m - 1)) (one_shl w16 depth h) ∙ and_mask p depth

pub cut_small : (p depth : ℕ) → depth ≤ 14 → p % 2 ^ depth < 16384
cut_small p depth h = le_trans (mod-lt p (pow_pos depth)) (pow_mono h)

pub cut-squared :
    (depth p q : ℕ) → depth < 16 → squared (2 * (depth - 8)) (bit_and p ((1 * 2 ^ depth) % 2 ^ 16 - 1)) (bit_and q ((1 * 2 ^ depth) % 2 ^ 16 - 1)) ≡ squared_low depth p q
unfolding squared_low
cut-squared depth p q h = ap₂ (squared (2 * (depth - 8))) (cut p depth h) (cut q depth h)

-- a square, divided, has 16 bits
pub squared-low-le : (depth p q : ℕ) → 8 ≤ depth → squared_low depth p q ≤ 65535
unfolding squared_low squared apart
squared-low-le depth p q h =
    let x = p % 2 ^ depth in
    let y = q % 2 ^ depth in
    let k = pow_pos depth in
    let d : apart x y ≤ 2 ^ depth - 1 = abs-dif-le (2 ^ depth - 1) x y (omega (arith, mod-lt p k)) (omega (arith, mod-lt q k)) in
    let a : apart x y * apart x y ≤ apart x y * 2 ^ depth = mul-le-mul (omega arith) (omega arith) in
    let b : apart x y * 2 ^ depth < 2 ^ depth * 2 ^ depth = mul-lt-mul_of_pos_right (omega arith) k in
    let e : depth + depth ≡ 16 + 2 * (depth - 8) = omega arith in
    let f : 2 ^ depth * 2 ^ depth ≡ 2 ^ (16 + 2 * (depth - 8)) = sym (pow-add 2 depth depth) ∙ ap (λ (n : ℕ). 2 ^ n) e in
    let g : apart x y * apart x y / 2 ^ (2 * (depth - 8)) < 2 ^ 16 = shr_lt 16 (2 * (depth - 8)) (omega arith) in
    omega arith

-- where neither sample reaches the depth's limit, nothing is cut
pub squared-low-is : (depth p q : ℕ) → p < 2 ^ depth → q < 2 ^ depth → squared_low depth p q ≡ squared (2 * (depth - 8)) p q
unfolding squared_low
squared-low-is depth p q h k = ap₂ (squared (2 * (depth - 8))) (mod-eq_of_lt h) (mod-eq_of_lt k)
