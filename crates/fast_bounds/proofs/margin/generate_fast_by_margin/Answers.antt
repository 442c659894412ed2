use Rattle.std.proofs.Common.{rules}
use Rattle.qp_model.specs.problem.Policy.{plans_of}
use Rattle.qp_model.specs.bounds.Printed.{printed}
use Rattle.lean_engine.specs.Engine.Targets.{targets_of}
use Rattle.lean_engine.proofs.Engine.AnswerLaws.{ok_map}
use Rattle.fast_bounds.specs.declared.generation.FastMade.{FastMade}
use Rattle.fast_bounds.proofs.FastAnswers.{every_from, accepted_from}
use Rattle.fast_bounds.proofs.FastMargin.{margin_law, margin_one_cause, margin_no_cause}
use Rattle.fast_bounds.proofs.margin.generate_fast_by_margin.Goals as goal

pub made_by_margin-requires : goal.made_by_margin-requires
made_by_margin-requires c = c.requires

pub returns-clause-built : goal.returns-clause-built
returns-clause-built c = ok_map c.made_by_margin.result _ _ c.made_by_margin.ensures.made (λ (made : FastMade) h. h.built)

pub returns-clause-certified : goal.returns-clause-certified
returns-clause-certified c =
    ok_map c.made_by_margin.result _ _ c.made_by_margin.ensures.made
    (λ (made : FastMade) h. (margin_law c.args.design.now (plans_of c.args.policy.now) made.controller (printed made.bounds) h.built).certified)

pub returns-clause-targets : goal.returns-clause-targets
returns-clause-targets c =
    ok_map c.made_by_margin.result _ _ c.made_by_margin.ensures.made
    (λ (made : FastMade) h. (margin_law c.args.design.now (plans_of c.args.policy.now) made.controller (printed made.bounds) h.built).within)

pub returns-clause-errors : goal.returns-clause-errors
returns-clause-errors c = ok_map c.made_by_margin.result _ _ c.made_by_margin.ensures.made (λ (made : FastMade) h. h.errors)

pub returns-clause-passes : goal.returns-clause-passes
returns-clause-passes c = c.made_by_margin.ensures.passes

pub returns-clause-refused : goal.returns-clause-refused
returns-clause-refused c = c.made_by_margin.ensures.refused

pub returns-clause-every_refusal : goal.returns-clause-every_refusal
returns-clause-every_refusal c =
    let p = c.args.design.now in
    let plans = plans_of c.args.policy.now in
    every_from FastMade _ _ _ (λ e other. margin_one_cause p plans (targets_of p) e other (search rules) c.requires)
    (λ k e. margin_no_cause p plans (targets_of p) k.0 k.1 k.2 k.3 k.4 e (search rules) c.requires k.5) c.made_by_margin.result c.made_by_margin.ensures

pub returns-clause-accepted : goal.returns-clause-accepted
returns-clause-accepted c m s k exponents f passes =
    let p = c.args.design.now in
    let plans = plans_of c.args.policy.now in
    accepted_from FastMade _ _ _ (λ e other. margin_one_cause p plans (targets_of p) e other (search rules) c.requires)
    (λ k e. margin_no_cause p plans (targets_of p) k.0 k.1 k.2 k.3 k.4 e (search rules) c.requires k.5) c.made_by_margin.result c.made_by_margin.ensures
    (m, s, k, exponents, f, passes)
