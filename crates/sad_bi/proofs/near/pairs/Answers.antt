-- `sad_bi::near::pairs` meets its contract. A signed slice tells nothing of the elements that aren't read yet, so the invariant bounds the sums themselves.
-- Assumes nothing.
use Rattle.std.proofs.Common.{◌≡◌, ℕ, ◌+◌, ◌*◌, get_or, ℤ, pos, sym, ap, ◌∙◌, subst, ap₂, arith, w16, to_z, of_z}
use lib.Bits.{bit_or}
use Rattle.integers.proofs.Bits.{back}
use Rattle.sad_bi.specs.Marks.{low_mark_of}
use Rattle.block_rows.specs.Totals.{Totalled}
use Rattle.sad_bi.specs.Near.{near_bi}
use Rattle.sad_bi.proofs.Pairs.{paired-start, paired-step, paired-end}
use Rattle.sad_bi.proofs.near.pairs.Goals as goal

pub loop-i-init : goal.loop-i-init
unfolding low_mark_of
loop-i-init c = paired-start _ _ _ _

pub offset_bounds-a-i : goal.offset_bounds-a-i
offset_bounds-a-i c = omega arith

pub bounds-a-i : goal.bounds-a-i
bounds-a-i c = omega (arith, c.requires.one)

pub offset_bounds-b-i : goal.offset_bounds-b-i
offset_bounds-b-i c = omega arith

pub bounds-b-i : goal.bounds-b-i
bounds-b-i c = omega (arith, c.requires.two)

pub overflow_add-u : goal.overflow_add-u
overflow_add-u c = omega (arith, c.requires.small)

pub offset_bounds-a-n : goal.offset_bounds-a-n
offset_bounds-a-n c = omega arith

pub bounds-a-n : goal.bounds-a-n
bounds-a-n c = omega (arith, c.requires.one)

pub overflow_add-p : goal.overflow_add-p
overflow_add-p c = omega (arith, c.requires.small)

pub offset_bounds-b-n : goal.offset_bounds-b-n
offset_bounds-b-n c = omega arith

pub bounds-b-n : goal.bounds-b-n
bounds-b-n c = omega (arith, c.requires.two)

pub lower-requires : goal.lower-requires
lower-requires c = tt

pub lower-low-requires : goal.lower-low-requires
lower-low-requires c = tt

pub near-requires : goal.near-requires
near-requires c = tt

pub near-requires-in-loop-i : goal.near-requires-in-loop-i
near-requires-in-loop-i c = tt

pub overflow_add-e : goal.overflow_add-e
overflow_add-e c = omega (arith, c.near-in-loop-i.ensures.1, c.near.ensures.1)

pub overflow_add-high : goal.overflow_add-high
overflow_add-high c =
    omega (arith, c.near-in-loop-i.ensures.1, c.near.ensures.1, c.loop-i.invariant.few, c.requires.small)

pub wrapping_add_u16-both-requires : goal.wrapping_add_u16-both-requires
wrapping_add_u16-both-requires c = tt

pub overflow_step-i : goal.overflow_step-i
overflow_step-i c = omega arith

pub loop-i-smaller : goal.loop-i-smaller
loop-i-smaller c = omega arith

pub loop-i-preserved : goal.loop-i-preserved
loop-i-preserved d =
    let a = d.args in
    let i = d.loop-i.i in
    let n = a.n in
    let v : to_z w16 (of_z w16 (get_or a.a.now i (pos 0))) ≡ get_or a.a.now i (pos 0) = back w16 _ (omega arith) in
    let u : to_z w16 (of_z w16 (get_or a.a.now (n + i) (pos 0))) ≡ get_or a.a.now (n + i) (pos 0) = back w16 _ (omega arith) in
    let A : ℕ → ℤ = λ k. get_or a.a.now k (pos 0) in
    let B : ℕ → ℕ = λ k. get_or a.b.now k 0 in
    let f : ℕ → ℕ = λ k. near_bi (A k) (B k) in
    let M : ℕ → ℕ = λ k. low_mark_of (A k) in
    let x = low_mark_of (to_z w16 (of_z w16 d.lower-low.result)) in
    let e = d.near.result + d.near-in-loop-i.result in
    let p : e ≡ f i + f (n + i) =
    ap₂ (λ (x y : ℕ). x + y) (d.near.ensures.0 ∙ ap (λ (z : ℤ). near_bi z (B i)) v) (d.near-in-loop-i.ensures.0 ∙ ap (λ (z : ℤ). near_bi z (B (n + i))) u)
    in
    let s : x ≡ bit_or (M (n + i)) (bit_or (M i) (low_mark_of (to_z w16 d.loop-i.low-bits))) =
    ap low_mark_of (back w16 d.lower-low.result d.lower-low.type_inv) ∙ d.lower-low.ensures
    ∙ ap₂ bit_or (ap low_mark_of u)
    (ap low_mark_of (back w16 d.lower.result d.lower.type_inv) ∙ d.lower.ensures ∙ ap (λ (z : ℤ). bit_or (low_mark_of z) (low_mark_of (to_z w16 d.loop-i.low-bits))) v)
    in
    paired-step n f M B d.loop-i.invariant d.loop-i-test.true e x d.wrapping_add_u16-both.result p
    (omega (arith, d.near-in-loop-i.ensures.1, d.near.ensures.1)) s d.wrapping_add_u16-both.ensures.value

pub wrapping_sub_u16-last-requires : goal.wrapping_sub_u16-last-requires
wrapping_sub_u16-last-requires c = tt

pub overflow_cast-sum : goal.overflow_cast-sum
overflow_cast-sum c = omega arith

pub overflow_mul-sum : goal.overflow_mul-sum
overflow_mul-sum c = omega (arith, c.loop-i.invariant.few, c.loop-i.invariant.highs.most, c.requires.small)

pub overflow_cast-sum-2 : goal.overflow_cast-sum-2
overflow_cast-sum-2 c = omega arith

pub overflow_add-sum : goal.overflow_add-sum
overflow_add-sum c =
    omega (arith, c.wrapping_sub_u16-last.type_inv, c.loop-i.invariant.few, c.loop-i.invariant.highs.most, c.requires.small)

pub low_mark-requires : goal.low_mark-requires
low_mark-requires c = tt

pub returns : goal.returns
returns c =
    let a = c.args in
    let A : ℕ → ℤ = λ k. get_or a.a.now k (pos 0) in
    let B : ℕ → ℕ = λ k. get_or a.b.now k 0 in
    let f : ℕ → ℕ = λ k. near_bi (A k) (B k) in
    let M : ℕ → ℕ = λ k. low_mark_of (A k) in
    let small = c.requires.small in
    subst (λ (m : ℕ). Totalled 16842495 (a.n + a.n) f (λ k. bit_or (M k) (B k)) (c.loop-i.high * 256 + c.wrapping_sub_u16-last.result) (bit_or c.loop-i.any m)) (sym c.low_mark.ensures)
    (paired-end a.n f M B c.loop-i.invariant c.loop-i-test.false small c.wrapping_sub_u16-last.result (omega (arith, c.wrapping_sub_u16-last.type_inv)) c.wrapping_sub_u16-last.ensures.value)
