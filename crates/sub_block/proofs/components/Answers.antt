-- `sub_block::components` meets its contract: each component's job is accepted, and leaves what it leaves. Assumes nothing.
use mathlib.Core.Path.{refl, ◌∙◌}
use borrow.Author.Rules.{rules}
use Rattle.evc.specs.SubBlocks.{luma, chroma}
use Rattle.evc.proofs.SubBlocks.{all-passed, luma-accepted, chroma-accepted}
use Rattle.sub_block.proofs.SubBlocks.{mapped, job-passed, sub-left}
use Rattle.sub_block.proofs.components.Goals as goal

pub component-requires : goal.component-requires
component-requires c =
    let s = c.args.call in
    search (
      rules,
      job-passed (luma s) s.y (λ p e. luma-accepted _ s p ((all-passed _ s c.requires).y p e))
          (mapped (luma s) s.y c.map-y.result (λ p j h. search rules) c.map-y.ensures.cases) refl,
    )

pub component-requires-2 : goal.component-requires-2
component-requires-2 c =
    let s = c.args.call in
    search (
      rules,
      job-passed (chroma s) s.u (λ p e. chroma-accepted _ s p ((all-passed _ s c.requires).u p e))
          (mapped (chroma s) s.u c.map-u.result (λ p j h. search rules) c.map-u.ensures.cases) c.component.auto.coef,
    )

pub component-requires-3 : goal.component-requires-3
component-requires-3 c =
    let s = c.args.call in
    search (
      rules,
      job-passed (chroma s) s.v (λ p e. chroma-accepted _ s p ((all-passed _ s c.requires).v p e))
          (mapped (chroma s) s.v c.map-v.result (λ p j h. search rules) c.map-v.ensures.cases) (c.component-2.auto.coef ∙ c.component.auto.coef),
    )

pub returns : goal.returns
returns c =
    let s = c.args.call in
    sub-left s c.args.coef.now _ _ _ c.requires
    (mapped (luma s) s.y c.map-y.result (λ p j h. search rules) c.map-y.ensures.cases)
    (mapped (chroma s) s.u c.map-u.result (λ p j h. search rules) c.map-u.ensures.cases)
    (mapped (chroma s) s.v c.map-v.result (λ p j h. search rules) c.map-v.ensures.cases)
    c.component.ensures c.component-2.ensures c.component-3.ensures
