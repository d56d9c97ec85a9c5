-- OR as an addition of numbers, so that every law of sums holds of it: `or_n n f` is f 0 OR f 1 OR .. f (n-1).
-- Assumes nothing.
use Rattle.std.specs.Prelude.{◌≡◌, ℕ, ◌*◌, ◌+◌, ◌/◌, ◌%◌, max, ◌≤◌}
use Rattle.std.proofs.Common.{sym, ap, ap₂, ◌∙◌, le_antisymm, le_trans, arith}
use Rattle.std.proofs.Math.Nat.{max-le, le-max_left, le-max_right}
use Rattle.std.proofs.Math.Arith.{bin_ind, digits_mod}
use Rattle.std.specs.Int.Bits.{bit_or, or_step, or_zero_l}
use Rattle.std.proofs.lemmas.Nat.{or_comm, or_shr}
use Rattle.integers.specs.Sum.{Addition, sum}

max_assoc : (a b c : ℕ) → max (max a b) c ≡ max a (max b c)
max_assoc a b c =
    le_antisymm
    (max-le (max-le (le-max_left a (max b c)) (le_trans (le-max_left b c) (le-max_right a (max b c)))) (le_trans (le-max_right b c) (le-max_right a (max b c))))
    (max-le (le_trans (le-max_left a b) (le-max_left (max a b) c)) (max-le (le_trans (le-max_right a b) (le-max_left (max a b) c)) (le-max_right (max a b) c)))

last : (a b : ℕ) → bit_or a b % 2 ≡ max (a % 2) (b % 2)
last a b =
    let p : max (a % 2) (b % 2) ≤ 1 = max-le (omega arith) (omega arith) in
    ap (λ (x : ℕ). x % 2) (or_step a b) ∙ digits_mod (bit_or (a / 2) (b / 2)) (omega arith)

-- by digits: those of the halves, and the last
pub or_assoc : (a b c : ℕ) → bit_or (bit_or a b) c ≡ bit_or a (bit_or b c)
or_assoc =
    bin_ind (λ (n : ℕ). (b c : ℕ) → bit_or (bit_or n b) c ≡ bit_or n (bit_or b c))
    (λ b c. ap (λ (x : ℕ). bit_or x c) (or_zero_l b) ∙ sym (or_zero_l (bit_or b c)))
    (λ n ih b c.
    or_step (bit_or n b) c
    ∙ ap₂ (λ (x y : ℕ). x * 2 + y)
    (ap (λ (x : ℕ). bit_or x (c / 2)) (or_shr n b 1) ∙ ih (b / 2) (c / 2) ∙ ap (λ (x : ℕ). bit_or (n / 2) x) (sym (or_shr b c 1)))
    (ap (λ (x : ℕ). max x (c % 2)) (last n b) ∙ max_assoc (n % 2) (b % 2) (c % 2) ∙ ap (λ (x : ℕ). max (n % 2) x) (sym (last b c)))
    ∙ sym (or_step n (bit_or b c)))

abbrev pub addition_or : Addition ℕ
addition_or = record { none = 0; plus = bit_or; idl = or_zero_l; assoc = or_assoc; comm = or_comm }

abbrev pub or_n : ℕ → (ℕ → ℕ) → ℕ
or_n n f = sum addition_or n f
