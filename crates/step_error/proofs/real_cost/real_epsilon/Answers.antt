use Rattle.std.proofs.Common.{pos, rules, ap, ◌∙◌}
use Rattle.std.specs.Int.{w128}
use mir.Val.{SFits}
use Rattle.std.proofs.lemmas.Int.{to_z-of_z}
use Rattle.qp_model.specs.problem.Parts.{design_of}
use Rattle.qp_model.specs.form.Class.{form_of}
use Rattle.step_error.proofs.MadeFacts.{step_by, are_solved, squares_small, first_small, real_cost_is, real_once}
use Rattle.step_error.proofs.real_cost.real_epsilon.Goals as goal

pub invariant_of-gains : goal.invariant_of-gains
invariant_of-gains c =
    let a = c.args in
    let m = c.requires.made in
    record { made = are_solved a.c.now a.e.now a.p_mat.now a.t.now a.w_mat.now a.f m.parts m.r 1 (λ j. 0) (λ j. 0) (step_by m.made) (λ j l i. 0) c.requires.bits }

pub cost_by-requires-clause-sums : goal.cost_by-requires-clause-sums
cost_by-requires-clause-sums c = (step_by c.requires.made.made).given

pub cost_by-requires-clause-small : goal.cost_by-requires-clause-small
cost_by-requires-clause-small c =
    let a = c.args in
    let m = c.requires.made in
    squares_small a.c.now a.e.now a.p_mat.now a.t.now a.w_mat.now a.f m.parts m.r 1 (λ j. 0) (λ j. 0) (step_by m.made) (λ j l i. 0)

pub cost_by-requires-clause-cost : goal.cost_by-requires-clause-cost
cost_by-requires-clause-cost c =
    let a = c.args in
    let m = c.requires.made in
    first_small a.c.now a.e.now a.p_mat.now a.t.now a.w_mat.now a.f m.parts m.r 1 (λ j. 0) (λ j. 0) (step_by m.made) (λ j l i. 0)

pub returns : goal.returns
returns c = λ p r k o gains plan.
    let a = c.args in
    let f : SFits w128 c.cost_by.result = search rules in
    to_z-of_z w128 _ f ∙ c.cost_by.ensures
    ∙ ap pos (real_cost_is a.c.now a.e.now a.p_mat.now a.t.now a.w_mat.now a.f p r 1 (λ j. 0) (λ j. 0) (step_by o) (λ j l i. 0) k gains _
    (to_z-of_z w128 _ c.ranges.plan ∙ plan)
    ∙ real_once (design_of p) (form_of (design_of p)) r a.f k gains.bits)
