-- `itxb0_small::stage_one::itxb0` meets its contract: an own call by its lines, and every other left alone. Assumes nothing.
use mathlib.Core.Path.{◌≡◌, refl, sym, subst, ◌∙◌}
use mathlib.Core.Bool.{Bool, true, false}
use mathlib.Core.List.{List}
use Rattle.std.proofs.Common.{inl}
use Prim.Native.Nat.{ℕ, ◌*◌, ◌^◌, ◌%◌}
use native.Mathlib.Omega.{arith}
use lib.ListN.{length}
use lib.IntN.{ℤ}
use Rattle.integers.specs.Lists.{written}
use Rattle.evc.specs.Table.{tm}
use Rattle.evc.specs.Stages.{stage_one_at, stage_two_number}
use Rattle.itx_halving.specs.Lines.{StageRoom}
use Rattle.itx_halving.specs.Taken.{takes, Call, takes_one, done_one}
use Rattle.itx_halving.proofs.Taken.{call, call-rooms, one-did, one_left}
use Rattle.itxb0_small.proofs.stage_one.itxb0.Goals.{Start}
use Rattle.itxb0_small.proofs.stage_one.itxb0.Goals as goal

module _ (s : Start) where
  -- what the guard answers
  abbrev answer : Bool
  answer = takes 1 3 0 s.args.log2_size s.args.log2_line (stage_two_number (length s.args.src.now) (length s.args.dst.now) s.args.log2_size s.args.log2_line 0)

  known : answer ≡ true → Call 1 3 0 (length s.args.src.now) (length s.args.dst.now) s.args.log2_size s.args.log2_line 0
  known g = call g

  -- what is asked of l lines, and shown of them, where l is their number
  lines-rooms : (l : ℕ) → (1 * 2 ^ s.args.log2_line) % 2 ^ 64 ≡ l → answer ≡ true → StageRoom s.args.src.now s.args.dst.now (2 ^ s.args.log2_size) l
  lines-rooms l e g = subst (λ (l : ℕ). StageRoom s.args.src.now s.args.dst.now (2 ^ s.args.log2_size) l) e (call-rooms (known g))

  abbrev Stored : List ℤ → ℕ → Type 0
  Stored d l = d ≡ written (2 ^ s.args.log2_size * l) (stage_one_at (tm (2 ^ s.args.log2_size)) (2 ^ s.args.log2_size) l s.args.src.now) s.args.dst.now

  -- the answer is the guard's
  abbrev Answered : Bool → List ℤ → Type 0
  Answered r d =
      let a = s.args in
      (r ≡ takes_one 1 3 0 a.log2_size a.log2_line a.src.now a.dst.now) × (d ≡ done_one r a.log2_size a.log2_line a.src.now a.dst.now)

  done : (r : Bool) (d : List ℤ) (l : ℕ) → r ≡ answer → r ≡ true → (1 * 2 ^ s.args.log2_line) % 2 ^ 64 ≡ l → Stored d l → Answered r d
  done r d l e t f p =
      subst (λ (r : Bool). Answered r d) (sym t)
      (one-did 1 3 0 s.args.log2_size s.args.log2_line s.args.src.now s.args.dst.now (sym e ∙ t) (subst (Stored d) (sym f) p))

  left : (r : Bool) → r ≡ answer → r ≡ false → Answered r s.args.dst.now
  left r e t =
      subst (λ (r : Bool). Answered r s.args.dst.now) (sym t)
      (one_left 1 3 0 s.args.log2_size s.args.log2_line s.args.src.now s.args.dst.now (sym e ∙ t))

-- two lines
two : (s : Start) → s.args.log2_line ≡ 1 → (1 * 2 ^ s.args.log2_line) % 2 ^ 64 ≡ 2
two s b = rw b

-- ---- the block of 2 by 2
two_rooms : (s : Start) → s.args.log2_size ≡ 1 → s.args.log2_line ≡ 1 → answer s ≡ true → StageRoom s.args.src.now s.args.dst.now 2 2
two_rooms s a b g = rw a at (lines-rooms s 2 (two s b) g)

two-stored : (s : Start) (d : List ℤ) → s.args.log2_size ≡ 1 → d ≡ written 4 (stage_one_at (tm 2) 2 2 s.args.src.now) s.args.dst.now → Stored s d 2
two-stored s d a p = rw a p

pub rows-requires : goal.rows-requires
rows-requires c =
    (inl refl, two_rooms (goal.at.rows-requires c).Start c.if-log2_size-eq1.true c.if-log2_line-eq1.true (sym c.takes-taken.ensures ∙ c.if-taken.true))

pub returns-then-taken : goal.returns-then-taken
returns-then-taken c =
    let both = done (goal.at.returns-then-taken c).Start c.takes-taken.result _ 2 c.takes-taken.ensures c.if-taken.true (two (goal.at.returns-then-taken c).Start c.if-log2_line-eq1.true)
    (two-stored (goal.at.returns-then-taken c).Start _ c.if-log2_size-eq1.true c.rows.ensures) in record { did = both.0; exit = both.1 }

pub returns-else-taken : goal.returns-else-taken
returns-else-taken c =
    let both = left (goal.at.returns-else-taken c).Start c.takes-taken.result c.takes-taken.ensures c.if-taken.false in record { did = both.0; exit = both.1 }

-- ---- the others
pub lines-requires : goal.lines-requires
lines-requires c =
    let g = sym c.takes-taken-2.ensures ∙ c.if-taken-2.true in
    (((known (goal.at.lines-requires c).Start g).size-least, (known (goal.at.lines-requires c).Start g).size-most), lines-rooms (goal.at.lines-requires c).Start 2 (two (goal.at.lines-requires c).Start c.if-log2_line-eq1-2.true) g)

pub overflow_shl-log2_line : goal.overflow_shl-log2_line
overflow_shl-log2_line c =
    omega (arith, (known (goal.at.overflow_shl-log2_line c).Start (sym c.takes-taken-2.ensures ∙ c.if-taken-2.true)).line-most)

pub lines-requires-else-log2_line-eq1-2 : goal.lines-requires-else-log2_line-eq1-2
lines-requires-else-log2_line-eq1-2 c =
    let w = known (goal.at.lines-requires-else-log2_line-eq1-2 c).Start (sym c.takes-taken-2.ensures ∙ c.if-taken-2.true) in
    ((w.size-least, w.size-most), call-rooms w)

pub returns-then-log2_line-eq1-2 : goal.returns-then-log2_line-eq1-2
returns-then-log2_line-eq1-2 c =
    let both = done (goal.at.returns-then-log2_line-eq1-2 c).Start c.takes-taken-2.result _ 2 c.takes-taken-2.ensures c.if-taken-2.true (two (goal.at.returns-then-log2_line-eq1-2 c).Start c.if-log2_line-eq1-2.true) c.lines.ensures in record { did = both.0; exit = both.1 }

pub returns-else-log2_line-eq1-2 : goal.returns-else-log2_line-eq1-2
returns-else-log2_line-eq1-2 c =
    let both = done (goal.at.returns-else-log2_line-eq1-2 c).Start c.takes-taken-2.result _ _ c.takes-taken-2.ensures c.if-taken-2.true refl c.lines-else-log2_line-eq1-2.ensures in record { did = both.0; exit = both.1 }

pub returns-else-taken-2 : goal.returns-else-taken-2
returns-else-taken-2 c =
    let both = left (goal.at.returns-else-taken-2 c).Start c.takes-taken-2.result c.takes-taken-2.ensures c.if-taken-2.false in record { did = both.0; exit = both.1 }
