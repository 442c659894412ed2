use Rattle.std.proofs.Common.{◌≡◌, ◌≤◌, ◌+◌, ◌^◌, ◌+ℤ◌, unsigned_abs, ◌∙◌, rules, refl}
use Rattle.std.specs.Int.{w128}
use mir.Val.{SFits}
use Rattle.std.proofs.lemmas.Int.{to_z-of_z}
use Rattle.qp_model.specs.problem.Parts.{design_of}
use Rattle.qp_model.specs.problem.Policy.{plans_of}
use Rattle.scaled_run.specs.ScaledCorners.{scaled_row_cost, scaled_input_cost}
use Rattle.corner_margin.specs.Corner.{shown_over}
use Rattle.condensed_form.proofs.Rooms.{sum_fits, sum_read}
use Rattle.condensed_form.proofs.DenominatorFacts.{denominator_fits}
use Rattle.corner_margin.proofs.RoomFacts.{unit_room}
use Rattle.corner_margin.proofs.CostFacts.{costs_of}
use Rattle.corner_margin.proofs.CostFacts.{den_is, den_some, cost_fits, cost_nonneg, side_fits, side_square_fits, side_den_fits, side_den_read}
use Rattle.corner_margin.proofs.corner.Corner.cost.Goals as goal

pub overflow_add-rows : goal.overflow_add-rows
overflow_add-rows c =
    let self = c.args.self.now in
    let fx : SFits w128 c.in_ok-rows.rows = search rules in
    let fy : SFits w128 c.in_ok-inputs.inputs = search rules in
    sum_fits c.in_ok-rows.rows c.in_ok-inputs.inputs fx fy (rw (c.in_ok-rows.ensures, c.in_ok-inputs.ensures)
    (cost_fits self.made))

pub overflow_mul-side : goal.overflow_mul-side
overflow_mul-side c =
    let self = c.args.self.now in
    let f : SFits w128 c.brought-side.result = search rules in
    side_square_fits self.made c.brought-side.result f c.brought-side.ensures

pub overflow_mul-self : goal.overflow_mul-self
overflow_mul-self c =
    let self = c.args.self.now in
    let f : SFits w128 c.brought-side.result = search rules in
    side_den_fits self.made c.brought-side.result f c.brought-side.ensures

pub ceil_div-requires : goal.ceil_div-requires
ceil_div-requires c =
    let self = c.args.self.now in
    let f : SFits w128 c.brought-side.result = search rules in
    rw (side_den_read self.made c.brought-side.result f c.brought-side.ensures)
    (den_some self.made)

pub returns : goal.returns
returns c =
    let self = c.args.self.now in
    let d = design_of c.args.self.now.run.parts.now in
    let s = plans_of c.args.self.now.policy.now in
    let f : SFits w128 c.brought-side.result = search rules in
    let fq : SFits w128 c.ceil_div.result = search rules in
    let fx : SFits w128 c.in_ok-rows.rows = search rules in
    let fy : SFits w128 c.in_ok-inputs.inputs = search rules in
    let sum : c.in_ok-rows.rows +ℤ c.in_ok-inputs.inputs ≡ scaled_row_cost self.unit d s (c.args.self.now.number + 1) +ℤ scaled_input_cost self.unit d s (c.args.self.now.number + 1) =
    rw (c.in_ok-rows.ensures, c.in_ok-inputs.ensures) refl in
    let small : unsigned_abs (c.in_ok-rows.rows +ℤ c.in_ok-inputs.inputs) ≤ 2 ^ 126 = rw (c.in_ok-rows.ensures, c.in_ok-inputs.ensures)
    (cost_fits self.made) in
    rw (to_z-of_z w128 _ fq)
    (costs_of (shown_over self.unit d s) (c.args.self.now.number + 1) (c.in_ok-rows.rows +ℤ c.in_ok-inputs.inputs) _ c.ceil_div.result sum
    (den_is self.made)
    (rw sum (cost_nonneg self.made))
    (den_some self.made)
    (c.ceil_div.ensures ∙ rw (
      sum_read c.in_ok-rows.rows c.in_ok-inputs.inputs fx fy small,
      side_den_read self.made c.brought-side.result f c.brought-side.ensures,
    ) refl))

pub brought-side-requires-clause-unit : goal.brought-side-requires-clause-unit
brought-side-requires-clause-unit c = unit_room c.args.self.now.made.scale

pub brought-side-requires-clause-fits : goal.brought-side-requires-clause-fits
brought-side-requires-clause-fits c =
    let self = c.args.self.now in
    let fr : SFits w128 c.args.self.now.run.parts.now.row_den = denominator_fits _ self.made.scale.design.row_den in
    rw (to_z-of_z w128 _ fr) (side_fits self.made)
