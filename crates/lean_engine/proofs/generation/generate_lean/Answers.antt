use Rattle.std.proofs.Common.{rules}
use Rattle.qp_model.specs.problem.Policy.{plans_of}
use Rattle.qp_model.specs.bounds.Printed.{printed}
use Rattle.design_engine.specs.Targets.{targets_of}
use Rattle.design_engine.specs.declared.generation.Made.{Made}
use Rattle.design_engine.proofs.AnswerLaws.{ok_map, every_from, accepted_from}
use Rattle.lean_engine.proofs.CauseLaws.{one_cause, no_cause}
use Rattle.lean_engine.proofs.LeanLaws.{lean_law}
use Rattle.lean_engine.proofs.generation.generate_lean.Goals as goal

pub made_leanly-requires-clause-plans : goal.made_leanly-requires-clause-plans
made_leanly-requires-clause-plans c = c.requires.plans

pub made_leanly-requires-clause-references : goal.made_leanly-requires-clause-references
made_leanly-requires-clause-references c = c.requires.references

pub returns-clause-built : goal.returns-clause-built
returns-clause-built c = ok_map c.made_leanly.result _ _ c.made_leanly.ensures.made (λ (made : Made) h. h.built)

pub returns-clause-certified : goal.returns-clause-certified
returns-clause-certified c =
    ok_map c.made_leanly.result _ _ c.made_leanly.ensures.made
    (λ (made : Made) h. (lean_law c.args.design.now (plans_of c.args.policy.now) (plans_of c.args.reference.now) made.controller (printed made.bounds) h.built).certified)

pub returns-clause-targets : goal.returns-clause-targets
returns-clause-targets c =
    ok_map c.made_leanly.result _ _ c.made_leanly.ensures.made
    (λ (made : Made) h. (lean_law c.args.design.now (plans_of c.args.policy.now) (plans_of c.args.reference.now) made.controller (printed made.bounds) h.built).within)

pub returns-clause-errors : goal.returns-clause-errors
returns-clause-errors c = ok_map c.made_leanly.result _ _ c.made_leanly.ensures.made (λ (made : Made) h. h.errors)

pub returns-clause-passes : goal.returns-clause-passes
returns-clause-passes c = c.made_leanly.ensures.passes

pub returns-clause-refused : goal.returns-clause-refused
returns-clause-refused c = c.made_leanly.ensures.refused

pub returns-clause-every_refusal : goal.returns-clause-every_refusal
returns-clause-every_refusal c =
    let p = c.args.design.now in
    let plans = plans_of c.args.policy.now in
    let references = plans_of c.args.reference.now in
    every_from _ _ _ (λ e other. one_cause p plans references (targets_of p) e other (search rules) c.requires.plans)
    (λ k e. no_cause p plans references (targets_of p) k.0 k.1 k.2 e (search rules) c.requires.plans k.3) c.made_leanly.result c.made_leanly.ensures

pub returns-clause-accepted : goal.returns-clause-accepted
returns-clause-accepted c m s f passes =
    let p = c.args.design.now in
    let plans = plans_of c.args.policy.now in
    let references = plans_of c.args.reference.now in
    accepted_from _ _ _ (λ e other. one_cause p plans references (targets_of p) e other (search rules) c.requires.plans)
    (λ k e. no_cause p plans references (targets_of p) k.0 k.1 k.2 e (search rules) c.requires.plans k.3) c.made_leanly.result c.made_leanly.ensures (m, s, f, passes)
