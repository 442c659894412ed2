use Rattle.std.proofs.Common.{ℕ, ◌+◌, inl, rules, refl, subst, ◌∙◌}
use Rattle.std.specs.Int.{w128}
use Rattle.std.proofs.lemmas.Int.{to_z-of_z}
use mir.Val.{SFits}
use Rattle.qp_model.specs.bounds.Printed.{printed}
use Rattle.dual_bounds.specs.FastSteps.{quarter_steps}
use Rattle.lean_engine.proofs.Engine.GenerationFacts.{whole_is, whole_least, at_most, error_small, undercut_fits}
use Rattle.fast_bounds.specs.FastTerms.{AreFastPrintedOf}
use Rattle.fast_bounds.specs.declared.generation.FastMade.{FastMade}
use Rattle.fast_bounds.proofs.FastAnswers.{handed}
use Rattle.fast_bounds.proofs.FastPromise.{cost_limited}
use Rattle.fast_bounds.proofs.generation.fast_made_with.Goals as goal

pub fast_controller_for-requires-clause-stepped : goal.fast_controller_for-requires-clause-stepped
fast_controller_for-requires-clause-stepped c = c.requires.stepped

pub fast_controller_for-requires-clause-aim : goal.fast_controller_for-requires-clause-aim
fast_controller_for-requires-clause-aim c = c.requires.terms.aim

pub fast_controller_for-requires-clause-narrow : goal.fast_controller_for-requires-clause-narrow
fast_controller_for-requires-clause-narrow c = c.requires.narrow

-- ---- the bounds
pub fast_bounds_of-requires-clause-terms : goal.fast_bounds_of-requires-clause-terms
fast_bounds_of-requires-clause-terms c = c.requires.terms

pub fast_bounds_of-requires-clause-narrow : goal.fast_bounds_of-requires-clause-narrow
fast_bounds_of-requires-clause-narrow c = c.requires.narrow

pub fast_bounds_of-requires-clause-errors : goal.fast_bounds_of-requires-clause-errors
fast_bounds_of-requires-clause-errors c =
    let e : SFits w128 c.in_ok-aimed.aimed.cost = search rules in
    whole_least c.in_ok-aimed.aimed.cost _ e c.in_ok-aimed.ensures.made.cost

pub fast_bounds_of-requires-clause-small : goal.fast_bounds_of-requires-clause-small
fast_bounds_of-requires-clause-small c =
    let e : SFits w128 c.in_ok-aimed.aimed.cost = search rules in
    at_most _ _ (to_z-of_z w128 _ e ∙ c.in_ok-aimed.ensures.made.cost)
    (cost_limited c.args.design.now c.args.terms.aim c.in_ok-aimed.aimed.controller c.in_ok-aimed.ensures.made.made) (error_small c.args.terms.aim c.requires.terms.aim)

pub fast_bounds_of-requires-clause-fits : goal.fast_bounds_of-requires-clause-fits
fast_bounds_of-requires-clause-fits c =
    let e : SFits w128 c.in_ok-aimed.aimed.cost = search rules in
    let n = c.in_ok-aimed.aimed.controller in
    let made = c.in_ok-aimed.ensures.made.made in
    rw (to_z-of_z w128 _ e ∙ c.in_ok-aimed.ensures.made.cost)
    (undercut_fits c.args.terms (n.step_exponent + 2) (quarter_steps n.steps) _ c.requires.terms made.steps.enough (cost_limited c.args.design.now c.args.terms.aim n made))

-- ---- what is told
pub returns-in_err-aimed : goal.returns-in_err-aimed
returns-in_err-aimed c =
    handed FastMade _ _ _ _ c.from_residual.result c.from_residual.ensures.0 c.from_residual.ensures.1 (λ e f. rw f c.in_err-aimed.ensures.refused)

pub returns-in-Ok : goal.returns-in-Ok
returns-in-Ok c =
    let cost : SFits w128 c.in_ok-aimed.aimed.cost = search rules in
    let eps : SFits w128 c.in_ok-aimed.aimed.eps = search rules in
    let aimed = c.in_ok-aimed.ensures.made in
    record {
      made = record {
        controller = aimed.made;
        bounds = subst (λ (n : ℕ). AreFastPrintedOf c.args.terms c.in_ok-aimed.aimed.controller n (printed c.in-Ok.bounds))
            (whole_is c.in_ok-aimed.aimed.cost _ cost aimed.cost) c.in-Ok.ensures;
        errors = to_z-of_z w128 _ eps ∙ aimed.errors;
      };
      passes = c.in_ok-aimed.ensures.passes;
      refused = tt;
    }

pub returns-in-Err : goal.returns-in-Err
returns-in-Err c = record { made = tt; passes = tt; refused = inl refl }
