use Rattle.std.proofs.Common.{ℕ, ◌<◌, ◌≤◌, List, length, rules, sym, subst, ◌∙◌}
use Rattle.std.specs.Int.{w128}
use Rattle.std.proofs.lemmas.Int.{to_z-of_z}
use mir.Val.{SFits}
use Rattle.qp_model.specs.machine.Controller.{numbers}
use Rattle.qp_model.specs.declared.design_parts.DesignParts.{DesignParts}
use Rattle.condensed_form.specs.Form.{IsFormOf}
use Rattle.lean_engine.specs.Engine.RowExponents.{exponent_in}
use Rattle.lean_engine.proofs.Engine.GenerationFacts.{whole_least}
use Rattle.fast_bounds.proofs.FastResiduals.{named, own_gains, counted, cost_same}
use Rattle.fast_bounds.proofs.residuals.fast_real_cost.Goals as goal

pub plan_reach-plan-requires : goal.plan_reach-plan-requires
plan_reach-plan-requires c = c.parts-parts.ensures.sound

pub real_run_epsilon-requires-clause-bits : goal.real_run_epsilon-requires-clause-bits
real_run_epsilon-requires-clause-bits c = c.parts-parts.ensures.sound.form.sized.rest.fraction_bits.1

pub real_run_epsilon-requires-clause-form : goal.real_run_epsilon-requires-clause-form
real_run_epsilon-requires-clause-form c = subst (λ (p : DesignParts). IsFormOf p c.args.condensed.now) (sym c.parts.ensures.value) c.requires.1.form

pub real_run_epsilon-requires-clause-count : goal.real_run_epsilon-requires-clause-count
real_run_epsilon-requires-clause-count c =
    counted c.parts-parts.ensures.value c.deref-2.ensures.value c.deref.ensures.value c.parts-parts.ensures.sound c.requires.1

pub real_run_epsilon-requires-clause-exponents : goal.real_run_epsilon-requires-clause-exponents
real_run_epsilon-requires-clause-exponents c =
    subst (λ (es : List ℕ). (i : ℕ) → i < length es → exponent_in es i ≤ c.parts-parts.result.now.s) (sym c.deref.ensures.value)
    (λ i l. c.parts-parts.ensures.sound.form.sized.rest.exponents i 0 l)

pub real_run_epsilon-requires-clause-exponent : goal.real_run_epsilon-requires-clause-exponent
real_run_epsilon-requires-clause-exponent c = c.parts-parts.ensures.sound.form.sized.rest.step_exponent

pub real_run_epsilon-requires-clause-made : goal.real_run_epsilon-requires-clause-made
real_run_epsilon-requires-clause-made c = record {
  parts = c.args.design.now;
  r = c.requires.0;
  made = named c.parts-parts.ensures.value c.deref-2.ensures.value c.deref.ensures.value c.parts-parts.ensures.sound c.requires.1;
}

pub real_run_epsilon-requires-clause-plan : goal.real_run_epsilon-requires-clause-plan
real_run_epsilon-requires-clause-plan c =
    let f : SFits w128 c.plan_reach-plan.result = search rules in
    whole_least c.plan_reach-plan.result _ f c.plan_reach-plan.ensures

pub returns : goal.returns
returns c r given =
    let f : SFits w128 c.plan_reach-plan.result = search rules in
    let s : SFits w128 c.real_run_epsilon.result = search rules in
    to_z-of_z w128 _ s ∙ c.real_run_epsilon.ensures c.args.design.now r (numbers c.parts-parts.result.now)
    (named c.parts-parts.ensures.value c.deref-2.ensures.value c.deref.ensures.value c.parts-parts.ensures.sound given)
    (own_gains c.parts-parts.ensures.value c.deref-2.ensures.value c.deref.ensures.value c.parts-parts.ensures.sound given)
    (to_z-of_z w128 _ f ∙ c.plan_reach-plan.ensures)
    ∙ cost_same c.parts-parts.ensures.value c.deref-2.ensures.value c.deref.ensures.value c.parts-parts.ensures.sound given
