-- `itx::stage_one::large` meets its contract: done by the one or the other crate, or refused. Assumes nothing.
use mathlib.Core.Path.{◌≡◌, ◌∙◌, subst}
use mathlib.Core.Bool.{false}
use mathlib.Core.List.{List}
use Prim.Native.Nat.{ℕ}
use lib.ListN.{length}
use lib.IntN.{ℤ}
use Rattle.evc.specs.Answers.{answer_number}
use Rattle.evc.specs.Stages.{stage_one_number, itxb0_exit}
use Rattle.itx_halving.specs.Taken.{takes_one}
use Rattle.itx_halving.proofs.Nobody.{did, not-taken-is, unchanged}
use Rattle.itx.proofs.stage_one.Nobody.{one-nobody}
use Rattle.itx.proofs.stage_one.large.Goals.{Else-itxb0}
use Rattle.itx.proofs.stage_one.large.Goals as goal

-- the refusal number, and what the stage leaves, by the output
abbrev number : (src : List ℤ) (size line : ℕ) → List ℤ → ℕ
number src size line d = stage_one_number (length src) (length d) size line

abbrev exit : (src : List ℤ) (size line : ℕ) → List ℤ → List ℤ
exit src size line d = itxb0_exit size line src d

-- where the first crate, and then the second, left the call alone
first-left : (c : Else-itxb0) → c.itxb0.new.dst ≡ c.args.dst.now
first-left c =
    unchanged 4 6 4 c.args.log2_size c.args.log2_line (number c.args.src.now c.args.log2_size c.args.log2_line) (exit c.args.src.now c.args.log2_size c.args.log2_line) c.itxb0.result c.args.dst.now c.itxb0.ensures.did c.itxb0.ensures.exit c.if-itxb0.false

pub returns-then-itxb0 : goal.returns-then-itxb0
returns-then-itxb0 c =
    let both = did 4 6 4 c.args.log2_size c.args.log2_line (number c.args.src.now c.args.log2_size c.args.log2_line) (exit c.args.src.now c.args.log2_size c.args.log2_line) c.itxb0.result c.args.dst.now c.itxb0.ensures.did c.itxb0.ensures.exit c.if-itxb0.true in record { answer = both.0; exit = both.1 }

pub returns-then-itxb0-2 : goal.returns-then-itxb0-2
returns-then-itxb0-2 c =
    let both = subst (λ (d : List ℤ). (0 ≡ number c.args.src.now c.args.log2_size c.args.log2_line d) × (c.itxb0-2.new.dst ≡ exit c.args.src.now c.args.log2_size c.args.log2_line d)) (first-left (goal.at.returns-then-itxb0-2 c).Else-itxb0)
    (did 4 6 0 c.args.log2_size c.args.log2_line (number c.args.src.now c.args.log2_size c.args.log2_line) (exit c.args.src.now c.args.log2_size c.args.log2_line) c.itxb0-2.result _ c.itxb0-2.ensures.did c.itxb0-2.ensures.exit c.if-itxb0-2.true) in record { answer = both.0; exit = both.1 }

pub returns : goal.returns
returns c =
    let d = unchanged 4 6 0 c.args.log2_size c.args.log2_line (number c.args.src.now c.args.log2_size c.args.log2_line) (exit c.args.src.now c.args.log2_size c.args.log2_line) c.itxb0-2.result _ c.itxb0-2.ensures.did c.itxb0-2.ensures.exit c.if-itxb0-2.false ∙ first-left (goal.at.returns c).Else-itxb0 in
    let n =
    subst (λ (d : List ℤ). takes_one 4 6 0 c.args.log2_size c.args.log2_line c.args.src.now d ≡ false) (first-left (goal.at.returns c).Else-itxb0)
    (not-taken-is 4 6 0 c.args.log2_size c.args.log2_line (number c.args.src.now c.args.log2_size c.args.log2_line) (exit c.args.src.now c.args.log2_size c.args.log2_line) c.itxb0-2.result _ c.itxb0-2.ensures.did c.itxb0-2.ensures.exit c.if-itxb0-2.false) in
    record { answer = subst (λ (d : List ℤ). answer_number c.stage_one.result ≡ number c.args.src.now c.args.log2_size c.args.log2_line d) d c.stage_one.ensures; exit = d ∙ one-nobody c.args.log2_size c.args.log2_line c.args.src.now c.args.dst.now c.requires n }
