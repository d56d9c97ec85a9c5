-- `itx::stage_two::large` meets its contract: done by the one or the other crate, or refused. Assumes nothing.
use mathlib.Core.Path.{◌≡◌, ◌∙◌, subst}
use mathlib.Core.Bool.{false}
use mathlib.Core.List.{List}
use Prim.Native.Nat.{ℕ}
use lib.ListN.{length}
use lib.IntN.{ℤ}
use Rattle.evc.specs.Answers.{answer_number}
use Rattle.evc.specs.Stages.{stage_two_number, itxb1_exit}
use Rattle.itx_halving.specs.Taken.{takes_two}
use Rattle.itx_halving.proofs.Nobody.{did, not-taken-is, unchanged}
use Rattle.itx.proofs.stage_two.Nobody.{two-nobody}
use Rattle.itx.proofs.stage_two.large.Goals.{Else-itxb1}
use Rattle.itx.proofs.stage_two.large.Goals as goal

-- the refusal number, and what the stage leaves, by the output
abbrev number : (src : List ℤ) (size line : ℕ) (shift : ℕ) → List ℤ → ℕ
number src size line shift d = stage_two_number (length src) (length d) size line shift

abbrev exit : (src : List ℤ) (size line : ℕ) (shift : ℕ) → List ℤ → List ℤ
exit src size line shift d = itxb1_exit size line shift src d

-- where the first crate, and then the second, left the call alone
first-left : (c : Else-itxb1) → c.itxb1.new.dst ≡ c.args.dst.now
first-left c =
    unchanged 5 6 4 c.args.log2_size c.args.log2_line (number c.args.src.now c.args.log2_size c.args.log2_line c.args.shift) (exit c.args.src.now c.args.log2_size c.args.log2_line c.args.shift) c.itxb1.result c.args.dst.now c.itxb1.ensures.did c.itxb1.ensures.exit c.if-itxb1.false

pub returns-then-itxb1 : goal.returns-then-itxb1
returns-then-itxb1 c =
    let both = did 5 6 4 c.args.log2_size c.args.log2_line (number c.args.src.now c.args.log2_size c.args.log2_line c.args.shift) (exit c.args.src.now c.args.log2_size c.args.log2_line c.args.shift) c.itxb1.result c.args.dst.now c.itxb1.ensures.did c.itxb1.ensures.exit c.if-itxb1.true in record { answer = both.0; exit = both.1 }

pub returns-then-itxb1-2 : goal.returns-then-itxb1-2
returns-then-itxb1-2 c =
    let both = subst (λ (d : List ℤ). (0 ≡ number c.args.src.now c.args.log2_size c.args.log2_line c.args.shift d) × (c.itxb1-2.new.dst ≡ exit c.args.src.now c.args.log2_size c.args.log2_line c.args.shift d)) (first-left (goal.at.returns-then-itxb1-2 c).Else-itxb1)
    (did 4 6 0 c.args.log2_size c.args.log2_line (number c.args.src.now c.args.log2_size c.args.log2_line c.args.shift) (exit c.args.src.now c.args.log2_size c.args.log2_line c.args.shift) c.itxb1-2.result _ c.itxb1-2.ensures.did c.itxb1-2.ensures.exit c.if-itxb1-2.true) in record { answer = both.0; exit = both.1 }

pub returns : goal.returns
returns c =
    let d = unchanged 4 6 0 c.args.log2_size c.args.log2_line (number c.args.src.now c.args.log2_size c.args.log2_line c.args.shift) (exit c.args.src.now c.args.log2_size c.args.log2_line c.args.shift) c.itxb1-2.result _ c.itxb1-2.ensures.did c.itxb1-2.ensures.exit c.if-itxb1-2.false ∙ first-left (goal.at.returns c).Else-itxb1 in
    let n =
    subst (λ (d : List ℤ). takes_two 4 6 0 c.args.log2_size c.args.log2_line c.args.shift c.args.src.now d ≡ false) (first-left (goal.at.returns c).Else-itxb1)
    (not-taken-is 4 6 0 c.args.log2_size c.args.log2_line (number c.args.src.now c.args.log2_size c.args.log2_line c.args.shift) (exit c.args.src.now c.args.log2_size c.args.log2_line c.args.shift) c.itxb1-2.result _ c.itxb1-2.ensures.did c.itxb1-2.ensures.exit c.if-itxb1-2.false) in
    record { answer = subst (λ (d : List ℤ). answer_number c.stage_two.result ≡ number c.args.src.now c.args.log2_size c.args.log2_line c.args.shift d) d c.stage_two.ensures; exit = d ∙ two-nobody c.args.log2_size c.args.log2_line c.args.src.now c.args.dst.now c.args.shift c.requires n }
