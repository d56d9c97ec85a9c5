-- `itx::stage_one::itxb0` meets its contract: a small size by `itxb0_small`, or by what it does not do. Assumes nothing.
use mathlib.Core.Path.{◌≡◌, sym, subst, ◌∙◌}
use mathlib.Core.Bool.{false}
use mathlib.Core.List.{List}
use Prim.Native.Nat.{ℕ}
use lib.ListN.{length}
use lib.IntN.{ℤ}
use Rattle.evc.specs.Answers.{answer_number}
use Rattle.evc.specs.Stages.{stage_one_number, itxb0_exit}
use Rattle.itx_halving.specs.Taken.{takes_one}
use Rattle.itx_halving.proofs.Nobody.{did, not-taken-is, unchanged, not-small}
use Rattle.itx.proofs.stage_one.itxb0.Goals.{Else-itxb0}
use Rattle.itx.proofs.stage_one.itxb0.Goals as goal

-- the refusal number, and what the stage leaves, by the output
abbrev number : (src : List ℤ) (size line : ℕ) → List ℤ → ℕ
number src size line d = stage_one_number (length src) (length d) size line

abbrev exit : (src : List ℤ) (size line : ℕ) → List ℤ → List ℤ
exit src size line d = itxb0_exit size line src d

-- where `itxb0_small` left the call alone
left : (c : Else-itxb0) → c.itxb0.new.dst ≡ c.args.dst.now
left c =
    unchanged 1 3 0 c.args.log2_size c.args.log2_line (number c.args.src.now c.args.log2_size c.args.log2_line) (exit c.args.src.now c.args.log2_size c.args.log2_line) c.itxb0.result c.args.dst.now c.itxb0.ensures.did c.itxb0.ensures.exit c.if-itxb0.false

pub large-requires : goal.large-requires
large-requires c = not-small c.args.log2_size c.args.log2_line _ c.if-log2_size-gt3.true

pub returns-then-itxb0 : goal.returns-then-itxb0
returns-then-itxb0 c =
    let both = did 1 3 0 c.args.log2_size c.args.log2_line (number c.args.src.now c.args.log2_size c.args.log2_line) (exit c.args.src.now c.args.log2_size c.args.log2_line) c.itxb0.result c.args.dst.now c.itxb0.ensures.did c.itxb0.ensures.exit c.if-itxb0.true in record { answer = both.0; exit = both.1 }

pub large-requires-2 : goal.large-requires-2
large-requires-2 c =
    subst (λ (d : List ℤ). takes_one 1 3 0 c.args.log2_size c.args.log2_line c.args.src.now d ≡ false) (sym (left (goal.at.large-requires-2 c).Else-itxb0))
    (not-taken-is 1 3 0 c.args.log2_size c.args.log2_line (number c.args.src.now c.args.log2_size c.args.log2_line) (exit c.args.src.now c.args.log2_size c.args.log2_line) c.itxb0.result c.args.dst.now c.itxb0.ensures.did c.itxb0.ensures.exit c.if-itxb0.false)

pub returns : goal.returns
returns c =
    let both = subst (λ (d : List ℤ). (answer_number c.by_value-2.result ≡ number c.args.src.now c.args.log2_size c.args.log2_line d) × (c.large-2.new.dst ≡ exit c.args.src.now c.args.log2_size c.args.log2_line d)) (left (goal.at.returns c).Else-itxb0)
    (c.by_value-2.ensures ∙ c.large-2.ensures.answer, c.large-2.ensures.exit) in record { answer = both.0; exit = both.1 }
