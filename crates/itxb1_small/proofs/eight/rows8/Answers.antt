-- `itxb1_small::eight::rows8` meets its contract: group after group. Assumes nothing.
use mathlib.Core.Path.{◌≡◌, refl, ap, ◌∙◌}
use mathlib.Core.List.{List}
use Prim.Native.Nat.{ℕ, ◌+◌, ◌*◌, ◌/◌, ◌≤◌, ◌<◌}
use native.Mathlib.Omega.{arith}
use native.Mathlib.Nat.{mul-le-mul_right}
use lib.ListN.{length}
use lib.IntN.{ℤ}
use Rattle.integers.specs.Lists.{written}
use Rattle.integers.proofs.Written.{written_none, written-length, written_count}
use Rattle.evc.specs.Table.{tm}
use Rattle.evc.specs.Stages.{stage_two_at}
use Rattle.std.specs.Prelude.{min}
use Rattle.std.proofs.Math.Nat.{min-eq_left, min-eq_right}
use borrow.Author.Tests.{lt-ltb, le-ltb}
use native.Mathlib.Decide.{dec_lt}
use Rattle.itxb1_small.specs.Groups.{group_of}
use Rattle.itxb1_small.proofs.Quotients.{group-most}
use Rattle.itxb1_small.proofs.eight.rows8.Goals.{Start}
use Rattle.itxb1_small.proofs.eight.rows8.Goals as goal

-- how many lines go together
smaller : (l m : ℕ) → m ≡ min l 8 → m ≡ group_of l
smaller l m e = e ∙ by (dec_lt l 8)
  where
    by : Dec (l < 8) → min l 8 ≡ group_of l
    by (yes p) = min-eq_left {n = l} {m = 8} (omega arith) ∙ rw (lt-ltb l 8 p)
    by (no f) = let h : 8 ≤ l = omega arith in min-eq_right {n = 8} {m = l} h ∙ rw (le-ltb l 8 h)

-- what the stage leaves
abbrev left : Start → ℕ → ℤ
left s = stage_two_at (tm 8) 8 s.args.l s.args.r.shift s.args.src.now

-- i groups of n are among the lines
among : (i m n l : ℕ) → i ≤ n → n * m ≡ l → i * m ≤ l
among i m n l h e = omega (arith, mul-le-mul_right {m = i} {n = n} m h)

next : (i m n l : ℕ) → i < n → n * m ≡ l → i * m + m ≤ l
next i m n l h e = let p : (i + 1) * m ≡ i * m + m = omega arith in omega (arith, among (i + 1) m n l (omega arith) e)

turn : (i m : ℕ) → i * m * 8 + 8 * m ≡ (i + 1) * m * 8
turn i m = let p : (i + 1) * m ≡ i * m + m = omega arith in omega arith

same : (i m n l : ℕ) (G : ℕ → ℤ) (d₀ : List ℤ) {d : List ℤ} → i ≤ n → n * m ≡ l → 8 * l ≤ length d₀ → d ≡ written (i * m * 8) G d₀ → length d ≡ length d₀
same i m n l G d₀ h e r p = ap length p ∙ written-length (i * m * 8) G d₀ (omega (arith, among i m n l h e))

pub loop-i-init : goal.loop-i-init
loop-i-init c =
    let m = smaller c.args.l c.min-m.result c.min-m.ensures in
    let d = c.args.dst.now in (
      (ap (λ (m : ℕ). (c.args.l + 7) / 8 * m) m ∙ c.requires.0, rw m (group-most c.args.l)),
      (omega arith, written_count 0 _ (left (goal.at.loop-i-init c).Start) d d (omega arith) (written_none (left (goal.at.loop-i-init c).Start) d)),
    )

pub group-requires : goal.group-requires
group-requires c =
    let m = c.min-m.result in (
      c.loop-i.invariant.0.1,
      (
        next c.loop-i.i m _ c.args.l c.loop-i-test.true c.loop-i.invariant.0.0,
        record {
          src-room = c.requires.1.src-room;
          dst-room =
              let e = same c.loop-i.i m _ c.args.l (left (goal.at.group-requires c).Start) c.args.dst.now c.loop-i.invariant.1.0 c.loop-i.invariant.0.0 c.requires.1.dst-room c.loop-i.invariant.1.1 in
              omega (arith, c.requires.1.dst-room, e);
        },
      ),
    )

pub loop-i-preserved : goal.loop-i-preserved
loop-i-preserved c =
    let m = c.min-m.result in
    let h = next c.loop-i.i m _ c.args.l c.loop-i-test.true c.loop-i.invariant.0.0 in
    let e : c.loop-i.i * m * 8 + 8 * m ≡ (c.loop-i.i + 1) * m * 8 = turn c.loop-i.i m in (
      c.loop-i.invariant.0,
      (
        omega (arith, c.loop-i-test.true),
        written_count (c.loop-i.i * m * 8 + 8 * m) ((c.loop-i.i + 1) * m * 8) (left (goal.at.loop-i-preserved c).Start) c.args.dst.now _ e
            (c.group.ensures.after (left (goal.at.loop-i-preserved c).Start) c.args.dst.now (omega (arith, c.requires.1.dst-room)) c.loop-i.invariant.1.1 (λ k q. refl)),
      ),
    )

pub shape_of-dst : goal.shape_of-dst
shape_of-dst c =
    same c.loop-i.i c.min-m.result _ c.args.l (left (goal.at.shape_of-dst c).Start) c.args.dst.now c.loop-i.invariant.1.0 c.loop-i.invariant.0.0 c.requires.1.dst-room c.loop-i.invariant.1.1

pub returns : goal.returns
returns c =
    let m = c.min-m.result in
    let n : c.loop-i.i ≡ (c.args.l + 7) / 8 = omega (arith, c.loop-i.invariant.1.0, c.loop-i-test.false) in
    let e : c.loop-i.i * m ≡ c.args.l = ap (λ (i : ℕ). i * m) n ∙ c.loop-i.invariant.0.0 in
    written_count (c.loop-i.i * m * 8) (8 * c.args.l) (left (goal.at.returns c).Start) c.args.dst.now _ (omega arith) c.loop-i.invariant.1.1
