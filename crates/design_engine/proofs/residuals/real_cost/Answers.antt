use Rattle.std.proofs.Common.{rules, ◌∙◌, pos, ap}
use Rattle.std.specs.Int.{w128}
use Rattle.std.proofs.lemmas.Int.{to_z-of_z}
use mir.Val.{SFits}
use Rattle.qp_model.specs.form.Class.{form_of}
use Rattle.qp_model.specs.problem.Parts.{design_of}
use Rattle.qp_model.specs.machine.Controller.{Numbers, numbers}
use Rattle.qp_model.specs.bounds.RealErrors.{real_cost}
use Rattle.step_error.specs.Made.{IsMade, IsMadeFor}
use Rattle.design_engine.proofs.GenerationFacts.{whole_least}
use Rattle.design_engine.proofs.ResidualFacts.{named, own_gains}
use Rattle.design_engine.proofs.residuals.real_cost.Goals as goal

pub real_epsilon-requires-clause-made : goal.real_epsilon-requires-clause-made
real_epsilon-requires-clause-made c =
    named (IsMade c.args.condensed.now c.args.sums.now) c.args.controller.now (numbers c.parts-parts.result.now) c.deref.result.now
    c.parts-parts.ensures.value c.deref.ensures.value c.requires

pub returns : goal.returns
returns c p r given =
    let f : SFits w128 c.plan_reach-plan.result = search rules in
    let s : SFits w128 c.real_epsilon.result = search rules in
    to_z-of_z w128 _ s ∙
    c.real_epsilon.ensures p r (numbers c.parts-parts.result.now)
    (named (IsMadeFor p r c.args.condensed.now c.args.sums.now) c.args.controller.now (numbers c.parts-parts.result.now) c.deref.result.now
    c.parts-parts.ensures.value c.deref.ensures.value given)
    (own_gains (numbers c.parts-parts.result.now) c.deref.result.now c.deref.ensures.value c.parts-parts.ensures.sound)
    (to_z-of_z w128 _ f ∙ c.plan_reach-plan.ensures) ∙
    ap (λ (k : Numbers). pos (real_cost (design_of p) (form_of (design_of p)) r k)) c.parts-parts.ensures.value

pub plan_reach-plan-requires : goal.plan_reach-plan-requires
plan_reach-plan-requires c = c.parts-parts.ensures.sound

pub real_epsilon-requires-clause-bits : goal.real_epsilon-requires-clause-bits
real_epsilon-requires-clause-bits c = c.parts-parts.ensures.sound.form.sized.fraction_bits.1

pub real_epsilon-requires-clause-plan : goal.real_epsilon-requires-clause-plan
real_epsilon-requires-clause-plan c =
    let f : SFits w128 c.plan_reach-plan.result = search rules in
    whole_least c.plan_reach-plan.result _ f c.plan_reach-plan.ensures
