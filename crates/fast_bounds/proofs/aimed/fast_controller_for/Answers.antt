use Rattle.std.proofs.Common.{unsigned_abs, rules, ◌∙◌}
use Rattle.std.specs.Int.{w128}
use Rattle.std.proofs.lemmas.Int.{to_z-of_z}
use mir.Val.{SFits}
use Rattle.fast_bounds.specs.declared.aimed.FastAimed.{FastAimed}
use Rattle.fast_bounds.proofs.FastAnswers.{handed}
use Rattle.fast_bounds.proofs.FastResiduals.{given_from, stated_as}
use Rattle.fast_bounds.proofs.aimed.fast_controller_for.Goals as goal

pub fast_run-requires-clause-stepped : goal.fast_run-requires-clause-stepped
fast_run-requires-clause-stepped c = c.requires.stepped

pub fast_run-requires-clause-aim : goal.fast_run-requires-clause-aim
fast_run-requires-clause-aim c = c.requires.aim

pub fast_run-requires-clause-narrow : goal.fast_run-requires-clause-narrow
fast_run-requires-clause-narrow c = c.requires.narrow

pub fast_controller_with-requires-clause-stepped : goal.fast_controller_with-requires-clause-stepped
fast_controller_with-requires-clause-stepped c = c.requires.stepped

pub fast_controller_with-requires-clause-aim : goal.fast_controller_with-requires-clause-aim
fast_controller_with-requires-clause-aim c = c.requires.aim

pub fast_controller_with-requires-clause-chosen : goal.fast_controller_with-requires-clause-chosen
fast_controller_with-requires-clause-chosen c = c.in_ok-chosen.ensures.chosen.passes

-- ---- what the errors of its run cost
pub fast_real_cost-cost-requires : goal.fast_real_cost-cost-requires
fast_real_cost-cost-requires c = (
  unsigned_abs c.args.aim.r,
  given_from c.args.design.now c.args.aim c.args.stepped.now _ _ c.in_ok-chosen.chosen.numbers c.in_ok-controller.controller c.requires.stepped
      c.in_ok-chosen.ensures.chosen
      c.in_ok-controller.ensures.passes.descent (search rules) c.in_ok-controller.ensures.assembled,
)

-- ---- the refusals
pub returns-in_err-chosen : goal.returns-in_err-chosen
returns-in_err-chosen c =
    handed FastAimed _ _ _ _ c.from_residual.result c.from_residual.ensures.0 c.from_residual.ensures.1 (λ e f. rw f c.in_err-chosen.ensures.refused)

pub returns-in_err-controller : goal.returns-in_err-controller
returns-in_err-controller c =
    handed FastAimed _ _ _ _ c.from_residual-in_err-controller.result c.from_residual-in_err-controller.ensures.0 c.from_residual-in_err-controller.ensures.1
    (λ e f. rw f c.in_err-controller.ensures.refused)

-- ---- what is told
pub returns : goal.returns
returns c =
    let cost : SFits w128 c.fast_real_cost-cost.result = search rules in
    let eps : SFits w128 c.in_ok-chosen.chosen.numbers.choice.eps = search rules in
    let chosen = c.in_ok-chosen.ensures.chosen in
    let assembled = c.in_ok-controller.ensures.assembled in
    record {
      made = record {
        made = c.in_ok-controller.ensures.made;
        cost = to_z-of_z w128 _ cost ∙ c.fast_real_cost-cost.ensures (unsigned_abs c.args.aim.r)
            (given_from c.args.design.now c.args.aim c.args.stepped.now _ _ c.in_ok-chosen.chosen.numbers c.in_ok-controller.controller c.requires.stepped chosen
            c.in_ok-controller.ensures.passes.descent (search rules) assembled);
        errors = to_z-of_z w128 _ eps
            ∙ stated_as c.args.design.now c.args.aim c.args.stepped.now.s _ _ c.in_ok-chosen.chosen.numbers c.in_ok-controller.controller chosen assembled;
      };
      passes = (c.in_ok-chosen.chosen.steps, c.in_ok-chosen.chosen.exps.items, c.in_ok-chosen.chosen.numbers.choice.f, c.in_ok-controller.ensures.passes);
      refused = tt;
    }
