use Rattle.std.proofs.Common.{subst}
use Rattle.qp_model.specs.problem.Parts.{IsDesign}
use Rattle.qp_model.specs.problem.Policy.{plans_of}
use Rattle.qp_model.specs.declared.design_parts.DesignParts.{DesignParts}
use Rattle.qp_model.specs.bounds.Printed.{printed}
use Rattle.design_engine.specs.Targets.{targets_of}
use Rattle.design_engine.specs.declared.generation.Made.{Made}
use Rattle.design_engine.proofs.AnswerLaws.{ok_map, every_from, accepted_from, built_certified, built_within}
use Rattle.design_engine.proofs.CauseLaws.{one_cause, no_cause}
use Rattle.design_engine.proofs.generation.generate.Goals as goal

-- the design keeps its rules
kept : (c : goal.After-made_plainly) → IsDesign c.args.design.now
kept c = subst (λ (p : DesignParts). IsDesign p) c.parts-parts.ensures.value c.parts-parts.ensures.sound

pub made_plainly-requires : goal.made_plainly-requires
made_plainly-requires c = c.requires

pub returns-clause-built : goal.returns-clause-built
returns-clause-built c = ok_map c.made_plainly.result _ _ c.made_plainly.ensures.made (λ (made : Made) h. h.built)

pub returns-clause-certified : goal.returns-clause-certified
returns-clause-certified c =
    ok_map c.made_plainly.result _ _ c.made_plainly.ensures.made
    (λ (made : Made) h. built_certified c.args.design.now (plans_of c.args.policy.now) made.controller (printed made.bounds) h.built)

pub returns-clause-targets : goal.returns-clause-targets
returns-clause-targets c =
    ok_map c.made_plainly.result _ _ c.made_plainly.ensures.made
    (λ (made : Made) h. built_within c.args.design.now (plans_of c.args.policy.now) made.controller (printed made.bounds) h.built)

pub returns-clause-errors : goal.returns-clause-errors
returns-clause-errors c = ok_map c.made_plainly.result _ _ c.made_plainly.ensures.made (λ (made : Made) h. h.errors)

pub returns-clause-refused : goal.returns-clause-refused
returns-clause-refused c = c.made_plainly.ensures.refused

pub returns-clause-every_refusal : goal.returns-clause-every_refusal
returns-clause-every_refusal c =
    let p = c.args.design.now in
    let plans = plans_of c.args.policy.now in
    every_from _ _ _ (λ e other. one_cause p plans (targets_of p) e other (kept c) c.requires)
    (λ k e. no_cause p plans (targets_of p) k.0 k.1 k.2 e (kept c) c.requires k.3) c.made_plainly.result c.made_plainly.ensures

pub returns-clause-accepted : goal.returns-clause-accepted
returns-clause-accepted c m s f passes =
    let p = c.args.design.now in
    let plans = plans_of c.args.policy.now in
    accepted_from _ _ _ (λ e other. one_cause p plans (targets_of p) e other (kept c) c.requires)
    (λ k e. no_cause p plans (targets_of p) k.0 k.1 k.2 e (kept c) c.requires k.3) c.made_plainly.result c.made_plainly.ensures (m, s, f, passes)
