use Rattle.std.proofs.Common.{pos, rules, ap, ◌∙◌}
use Rattle.std.specs.Int.{w128}
use mir.Val.{SFits}
use Rattle.std.proofs.lemmas.Int.{to_z-of_z}
use Rattle.step_error.proofs.MadeFacts.{run_by, mean_held, are_solved, squares_small, first_small, real_cost_is}
use Rattle.step_error.proofs.real_cost.real_run_epsilon.Goals as goal

pub invariant_of-gains : goal.invariant_of-gains
invariant_of-gains c =
    let a = c.args in
    let m = c.requires.made in
    record { made = are_solved a.c.now a.run.now a.p_mat.now a.t.now a.w_mat.now a.f m.parts m.r _ _ _ (run_by m.made) (mean_held m.made) c.requires.bits }

pub cost_by-requires-clause-means : goal.cost_by-requires-clause-means
cost_by-requires-clause-means c = record {
  form = c.requires.form;
  count = c.requires.count;
  exponents = c.requires.exponents;
  exponent = c.requires.exponent;
}

pub cost_by-requires-clause-sums : goal.cost_by-requires-clause-sums
cost_by-requires-clause-sums c = c.requires.made.made.given

pub cost_by-requires-clause-small : goal.cost_by-requires-clause-small
cost_by-requires-clause-small c =
    let a = c.args in
    let m = c.requires.made in
    squares_small a.c.now a.run.now a.p_mat.now a.t.now a.w_mat.now a.f m.parts m.r _ _ _ (run_by m.made) (mean_held m.made)

pub cost_by-requires-clause-cost : goal.cost_by-requires-clause-cost
cost_by-requires-clause-cost c =
    let a = c.args in
    let m = c.requires.made in
    rw c.carry_of.ensures.value (first_small a.c.now a.run.now a.p_mat.now a.t.now a.w_mat.now a.f m.parts m.r _ _ _ (run_by m.made) (mean_held m.made))

pub returns : goal.returns
returns c = λ p r k o gains plan.
    let a = c.args in
    let f : SFits w128 c.cost_by.result = search rules in
    let costs = rw c.carry_of.ensures.value at c.cost_by.ensures in
    to_z-of_z w128 _ f ∙ costs
    ∙ ap pos (real_cost_is a.c.now a.run.now a.p_mat.now a.t.now a.w_mat.now a.f p r _ _ _ (run_by o) (mean_held o) k gains _ (to_z-of_z w128 _ c.ranges.plan ∙ plan))
