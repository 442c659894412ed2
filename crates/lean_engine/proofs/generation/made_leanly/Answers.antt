use Rattle.design_engine.proofs.AnswerLaws.{handed}
use Rattle.design_engine.proofs.RefusalFacts.{margin_refused}
use Rattle.design_engine.specs.Stages.{OfForm}
use Rattle.design_engine.specs.Targets.{targets_of}
use Rattle.design_engine.specs.Tests.{HasAimCause}
use Rattle.qp_model.specs.bounds.Choices.{lean_multiplier_size}
use Rattle.qp_model.specs.problem.Parts.{design_of}
use Rattle.qp_model.specs.problem.Policy.{plans_of}
use Rattle.lean_engine.specs.Refusals.{AfterExponent}
use Rattle.lean_engine.proofs.RefusalFacts.{form_caused}
use Rattle.lean_engine.proofs.generation.made_leanly.Goals as goal

pub returns-in_err-margin : goal.returns-in_err-margin
returns-in_err-margin c =
    handed _ _ _ _ c.from_residual.result c.from_residual.ensures.0 c.from_residual.ensures.1
    (margin_refused (design_of c.args.design.now) (plans_of c.args.policy.now)
    (λ m. OfForm (design_of c.args.design.now) (AfterExponent lean_multiplier_size HasAimCause (design_of c.args.design.now) (targets_of c.args.design.now) (plans_of c.args.policy.now) (plans_of c.args.reference.now) m))
    c.margins.result _ c.in_err-margin.was c.margins.ensures.wide c.margins.ensures.short)

pub returns-in_err-stepped : goal.returns-in_err-stepped
returns-in_err-stepped c =
    let margin = c.in_ok-margin.ensures in
    handed _ _ _ _ c.from_residual-in_err-stepped.result c.from_residual-in_err-stepped.ensures.0 c.from_residual-in_err-stepped.ensures.1
    (λ e f. rw f (form_caused lean_multiplier_size HasAimCause (design_of c.args.design.now) (targets_of c.args.design.now) (plans_of c.args.policy.now) (plans_of c.args.reference.now) c.in_ok-margin.margin (record { room = margin.room; margin = margin.margin; slack = margin.slack }) _ c.in_err-stepped.ensures.refused))

pub priced-made-requires-clause-plans : goal.priced-made-requires-clause-plans
priced-made-requires-clause-plans c = c.requires.plans

pub priced-made-requires-clause-references : goal.priced-made-requires-clause-references
priced-made-requires-clause-references c = c.requires.references

pub priced-made-requires-clause-stepped : goal.priced-made-requires-clause-stepped
priced-made-requires-clause-stepped c = c.in_ok-stepped.ensures.stepped

pub priced-made-requires-clause-scaled : goal.priced-made-requires-clause-scaled
priced-made-requires-clause-scaled c =
    let margin = c.in_ok-margin.ensures in
    record {
      margin = record { room = margin.room; margin = margin.margin; slack = margin.slack };
      form = c.in_ok-stepped.ensures.passes;
      exponent = c.in_ok-stepped.ensures.stepped.exponent c.args.design.now c.in_ok-stepped.ensures.stepped.form;
    }

pub returns : goal.returns
returns c = c.priced-made.ensures
