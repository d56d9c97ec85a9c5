-- `itx::stage_two::itxb1` meets its contract: a small size by `itxb1_small`, or by what it does not do. Assumes nothing.
use mathlib.Core.Path.{◌≡◌, sym, subst, ◌∙◌}
use mathlib.Core.Bool.{false}
use mathlib.Core.List.{List}
use Prim.Native.Nat.{ℕ}
use lib.ListN.{length}
use lib.IntN.{ℤ}
use Rattle.evc.specs.Answers.{answer_number}
use Rattle.evc.specs.Stages.{stage_two_number, itxb1_exit}
use Rattle.itx_halving.specs.Taken.{takes_two}
use Rattle.itx_halving.proofs.Nobody.{did, not-taken-is, unchanged, not-small}
use Rattle.itx.proofs.stage_two.itxb1.Goals.{Else-itxb1}
use Rattle.itx.proofs.stage_two.itxb1.Goals as goal

-- the refusal number, and what the stage leaves, by the output
abbrev number : (src : List ℤ) (size line : ℕ) (shift : ℕ) → List ℤ → ℕ
number src size line shift d = stage_two_number (length src) (length d) size line shift

abbrev exit : (src : List ℤ) (size line : ℕ) (shift : ℕ) → List ℤ → List ℤ
exit src size line shift d = itxb1_exit size line shift src d

-- where `itxb1_small` left the call alone
left : (c : Else-itxb1) → c.itxb1.new.dst ≡ c.args.dst.now
left c =
    unchanged 1 3 0 c.args.log2_size c.args.log2_line (number c.args.src.now c.args.log2_size c.args.log2_line c.args.shift) (exit c.args.src.now c.args.log2_size c.args.log2_line c.args.shift) c.itxb1.result c.args.dst.now c.itxb1.ensures.did c.itxb1.ensures.exit c.if-itxb1.false

pub large-requires : goal.large-requires
large-requires c = not-small c.args.log2_size c.args.log2_line _ c.if-log2_size-gt3.true

pub returns-then-itxb1 : goal.returns-then-itxb1
returns-then-itxb1 c =
    let both = did 1 3 0 c.args.log2_size c.args.log2_line (number c.args.src.now c.args.log2_size c.args.log2_line c.args.shift) (exit c.args.src.now c.args.log2_size c.args.log2_line c.args.shift) c.itxb1.result c.args.dst.now c.itxb1.ensures.did c.itxb1.ensures.exit c.if-itxb1.true in record { answer = both.0; exit = both.1 }

pub large-requires-2 : goal.large-requires-2
large-requires-2 c =
    subst (λ (d : List ℤ). takes_two 1 3 0 c.args.log2_size c.args.log2_line c.args.shift c.args.src.now d ≡ false) (sym (left (goal.at.large-requires-2 c).Else-itxb1))
    (not-taken-is 1 3 0 c.args.log2_size c.args.log2_line (number c.args.src.now c.args.log2_size c.args.log2_line c.args.shift) (exit c.args.src.now c.args.log2_size c.args.log2_line c.args.shift) c.itxb1.result c.args.dst.now c.itxb1.ensures.did c.itxb1.ensures.exit c.if-itxb1.false)

pub returns : goal.returns
returns c =
    let both = subst (λ (d : List ℤ). (answer_number c.by_value-2.result ≡ number c.args.src.now c.args.log2_size c.args.log2_line c.args.shift d) × (c.large-2.new.dst ≡ exit c.args.src.now c.args.log2_size c.args.log2_line c.args.shift d)) (left (goal.at.returns c).Else-itxb1)
    (c.by_value-2.ensures ∙ c.large-2.ensures.answer, c.large-2.ensures.exit) in record { answer = both.0; exit = both.1 }
