use Rattle.qp_model.specs.problem.Parts.{design_of}
use Rattle.qp_model.specs.problem.Policy.{plans_of}
use Rattle.lean_engine.specs.Engine.Stages.{OfForm}
use Rattle.lean_engine.specs.Engine.Targets.{targets_of}
use Rattle.lean_engine.proofs.Engine.RefusalFacts.{margin_refused}
use Rattle.dual_bounds.specs.FastSteps.{fast_multiplier_size}
use Rattle.lean_engine.specs.Refusals.{AfterExponent}
use Rattle.lean_engine.proofs.RefusalFacts.{form_caused}
use Rattle.fast_bounds.specs.FastRefusals.{HasFastAimCause}
use Rattle.fast_bounds.specs.declared.generation.FastMade.{FastMade}
use Rattle.fast_bounds.proofs.FastAnswers.{handed}
use Rattle.fast_bounds.proofs.generation.made_fast.Goals as goal

pub returns-in_err-margin : goal.returns-in_err-margin
returns-in_err-margin c =
    let d = design_of c.args.design.now in
    let plans = plans_of c.args.policy.now in
    handed FastMade _ _ _ _ c.from_residual.result c.from_residual.ensures.0 c.from_residual.ensures.1
    (margin_refused d plans (λ m. OfForm d (AfterExponent fast_multiplier_size HasFastAimCause d (targets_of c.args.design.now) plans (plans_of c.args.reference.now) m))
    c.margins.result _ c.in_err-margin.was c.margins.ensures.wide c.margins.ensures.short)

pub returns-in_err-stepped : goal.returns-in_err-stepped
returns-in_err-stepped c =
    let margin = c.in_ok-margin.ensures in
    handed FastMade _ _ _ _ c.from_residual-in_err-stepped.result c.from_residual-in_err-stepped.ensures.0 c.from_residual-in_err-stepped.ensures.1
    (λ e f. rw f (form_caused fast_multiplier_size HasFastAimCause (design_of c.args.design.now) (targets_of c.args.design.now) (plans_of c.args.policy.now) (plans_of c.args.reference.now)
    c.in_ok-margin.margin (record { room = margin.room; margin = margin.margin; slack = margin.slack }) _ c.in_err-stepped.ensures.refused))

pub fast_priced-made-requires-clause-plans : goal.fast_priced-made-requires-clause-plans
fast_priced-made-requires-clause-plans c = c.requires.plans

pub fast_priced-made-requires-clause-references : goal.fast_priced-made-requires-clause-references
fast_priced-made-requires-clause-references c = c.requires.references

pub fast_priced-made-requires-clause-stepped : goal.fast_priced-made-requires-clause-stepped
fast_priced-made-requires-clause-stepped c = c.in_ok-stepped.ensures.stepped

pub fast_priced-made-requires-clause-scaled : goal.fast_priced-made-requires-clause-scaled
fast_priced-made-requires-clause-scaled c =
    let margin = c.in_ok-margin.ensures in
    record {
      margin = record { room = margin.room; margin = margin.margin; slack = margin.slack };
      form = c.in_ok-stepped.ensures.passes;
      exponent = c.in_ok-stepped.ensures.stepped.exponent c.args.design.now c.in_ok-stepped.ensures.stepped.form;
    }

pub returns : goal.returns
returns c = c.fast_priced-made.ensures
