use Rattle.std.proofs.Common.{false}
use Rattle.qp_model.specs.problem.Parts.{design_of}
use Rattle.condensed_form.specs.Fault.{IsFirstWideIn}
use Rattle.scaled_condense.proofs.exact.condense_exact.Goals as goal

pub returns-clause-wide : goal.returns-clause-wide
returns-clause-wide c = λ q. (
  (λ e. (cc)),
  (λ w. (
      let first : IsFirstWideIn false (design_of c.parts-parts.result.now) q = rw c.parts-parts.ensures.value w in
      let wide = (c.sizes_of.ensures.wide q).1 first in
      let was = c.in_ok-sizes.was in
      cc
      )),
)

pub parts-parts-requires : goal.parts-parts-requires
parts-parts-requires c = tt

pub sizes_of-requires : goal.sizes_of-requires
sizes_of-requires c = c.parts-parts.ensures.sound

pub exact_form-requires-clause-design : goal.exact_form-requires-clause-design
exact_form-requires-clause-design c = c.parts-parts.ensures.sound

pub exact_form-requires-clause-sizes : goal.exact_form-requires-clause-sizes
exact_form-requires-clause-sizes c = c.in_ok-sizes.ensures.sizes

pub returns-clause-form : goal.returns-clause-form
returns-clause-form c = rw (← c.parts-parts.ensures.value) c.in_ok-exact_form.ensures

pub exact_form-requires-clause-reach : goal.exact_form-requires-clause-reach
exact_form-requires-clause-reach c = c.in_ok-sizes.ensures.reach
