-- `ssd::rows::Ssd::row` meets its contract. Assumes nothing.
use Prim.Native.Nat.{ℕ, ◌-◌, ◌*◌, ◌%◌, ◌^◌, ◌≤◌}
use native.Mathlib.Nat.{le_trans, le_of_eq}
use native.Mathlib.Omega.{arith}
use mathlib.Core.Path.{◌≡◌, refl, ap, ◌∙◌}
use mathlib.Core.List.{List}
use lib.Bits.{bit_and}
use lib.ListN.{get_or}
use lib.Pow.{pow_pos}
use mir.Syntax.{w16}
use Rattle.integers.proofs.Bits.{one_shl}
use Rattle.ssd.specs.Squares.{squared, squared_low}
use Rattle.ssd.proofs.Squares.{cut, cut_small, cut-squared, squared-low-le}
use Rattle.block_rows.proofs.Running.{running-start, running-step, running-end, running-next}
use Rattle.ssd.proofs.rows.SsdCompareU16.row.Goals.{After-share-sum, At-loop-i}
use Rattle.ssd.proofs.rows.SsdCompareU16.row.Goals as goal

-- the two rows, the place, and the depth
abbrev row_a : After-share-sum → List ℕ
row_a c = c.args.rows.a.now

abbrev row_b : After-share-sum → List ℕ
row_b c = c.args.rows.b.now

abbrev at : After-share-sum → ℕ
at c = c.loop-i.i

abbrev depth_of : After-share-sum → ℕ
depth_of c = c.args.self.depth

pub overflow_shl-mask : goal.overflow_shl-mask
overflow_shl-mask c = omega (arith, c.args.self.allowed)

pub overflow_sub-mask : goal.overflow_sub-mask
overflow_sub-mask c =
    let a = c.args in
    omega (arith, one_shl w16 a.self.depth (omega (arith, c.args.self.allowed)), pow_pos a.self.depth)

pub loop-i-init : goal.loop-i-init
loop-i-init c = running-start

-- what two samples add, by the shift that the code has
is-low :
    (c : At-loop-i) (p q : ℕ) →
    let a = c.args in
    let m = (1 * 2 ^ a.self.depth) % 2 ^ 16 - 1 in
    squared c.square_shift-shift.result (bit_and p m) (bit_and q m) ≡ squared_low a.self.depth p q
is-low c p q =
    let d = c.args.self.allowed in
    let m = (1 * 2 ^ c.args.self.depth) % 2 ^ 16 - 1 in
    let e : c.square_shift-shift.result ≡ 2 * (c.args.self.depth - 8) = omega (arith, c.square_shift-shift.ensures) in
    ap (λ (n : ℕ). squared n (bit_and p m) (bit_and q m)) e ∙ cut-squared c.args.self.depth p q (omega arith)

pub share-sum-requires : goal.share-sum-requires
share-sum-requires c =
    let a = c.args in
    let i = c.loop-i.i in
    let p = get_or a.rows.a.now i 0 in
    let q = get_or a.rows.b.now i 0 in
    let h = c.args.self.allowed.1 in
    record {
      numbers = (
        omega (arith, cut p a.self.depth (omega arith), cut_small p a.self.depth h),
        omega (arith, cut q a.self.depth (omega arith), cut_small q a.self.depth h),
        omega (arith, h),
      );
      square_fits = le_trans (le_of_eq (is-low (goal.at.share-sum-requires c).At-loop-i p q)) (squared-low-le a.self.depth p q c.args.self.allowed.0);
    }

-- the summand of this turn, and what it is at most
summand : (c : After-share-sum) → c.share-sum.result ≡ squared_low (depth_of c) (get_or (row_a c) (at c) 0) (get_or (row_b c) (at c) 0)
summand c = c.share-sum.ensures ∙ is-low (goal.at.overflow_add-sum c).At-loop-i (get_or (row_a c) (at c) 0) (get_or (row_b c) (at c) 0)

most : (c : After-share-sum) → c.share-sum.result ≤ 65535
most c =
    omega (arith, summand c, squared-low-le (depth_of c) (get_or (row_a c) (at c) 0) (get_or (row_b c) (at c) 0) c.args.self.allowed.0)

pub overflow_add-sum : goal.overflow_add-sum
overflow_add-sum c =
    omega (arith, running-next c.loop-i.invariant (omega arith) c.args.rows.small (most c))

pub loop-i-preserved : goal.loop-i-preserved
loop-i-preserved c = running-step c.loop-i.invariant (omega arith) (summand c) refl (most c)

pub returns : goal.returns
returns c = running-end c.loop-i.invariant (omega arith) c.args.rows.small
