use Rattle.std.proofs.Common.{◌≡◌, ℕ, ◌*◌, ◌^◌, ◌≤◌, ℤ, pos, List, unsigned_abs, ◌∙◌, refl, rules}
use Rattle.std.specs.Int.{w128}
use mir.Val.{SFits}
use Rattle.std.proofs.lemmas.Int.{to_z-of_z}
use Rattle.qp_model.specs.problem.Parts.{design_of}
use Rattle.condensed_form.specs.Form.{response_scale}
use Rattle.condensed_form.proofs.DenominatorFacts.{natural, denominator_fits, naturals_fit, naturals_read, hess_den_room, row_den_room, size_fits}
use Rattle.condensed_form.proofs.FormLaws.{cost_room, limit_room, exact_form_of}
use Rattle.scaled_condense.proofs.ExactFacts.{exact_costs, exact_limits, exact_radii}
use Rattle.scaled_condense.proofs.exact.assembled.Goals as goal

pub square_scale-square-requires-clause-fits : goal.square_scale-square-requires-clause-fits
square_scale-square-requires-clause-fits c = cost_room c.args.parts.now c.requires.design c.requires.sizes.cost_room

pub overflow_mul-result : goal.overflow_mul-result
overflow_mul-result c =
    let p = c.args.parts.now in
    let h = c.requires.design in
    let room = cost_room p h c.requires.sizes.cost_room in
    let fc : SFits w128 p.cost_den = denominator_fits p.cost_den h.cost_den in
    let ec : p.cost_den ≡ pos (unsigned_abs p.cost_den) = natural p.cost_den h.cost_den.low in
    let fs : SFits w128 c.square_scale-square.result = search rules in
    let rc : unsigned_abs p.cost_den * response_scale (design_of p) ^ 2 ≤ 2 ^ 126 = hess_den_room p h room in
    naturals_fit p.cost_den c.square_scale-square.result (unsigned_abs p.cost_den) (response_scale (design_of p) ^ 2) fc fs ec c.square_scale-square.ensures rc

pub overflow_mul-result-2 : goal.overflow_mul-result-2
overflow_mul-result-2 c =
    let p = c.args.parts.now in
    let h = c.requires.design in
    let room = cost_room p h c.requires.sizes.cost_room in
    let fl : SFits w128 p.limit_den = denominator_fits p.limit_den h.limit_den in
    let el : p.limit_den ≡ pos (unsigned_abs p.limit_den) = natural p.limit_den h.limit_den.low in
    let rl : unsigned_abs p.limit_den * unsigned_abs p.plant_den ^ p.stages ≤ 2 ^ 126 = row_den_room p (limit_room p h c.requires.sizes.limit_room) in
    naturals_fit p.limit_den c.args.power (unsigned_abs p.limit_den) (unsigned_abs p.plant_den ^ p.stages) fl c.ranges.power el c.requires.power rl

pub bend_floor-requires-clause-fits : goal.bend_floor-requires-clause-fits
bend_floor-requires-clause-fits c = cost_room c.args.parts.now c.requires.design c.requires.sizes.cost_room

pub returns : goal.returns
returns c =
    let p = c.args.parts.now in
    let h = c.requires.design in
    let room = cost_room p h c.requires.sizes.cost_room in
    let fc : SFits w128 p.cost_den = denominator_fits p.cost_den h.cost_den in
    let ec : p.cost_den ≡ pos (unsigned_abs p.cost_den) = natural p.cost_den h.cost_den.low in
    let fs : SFits w128 c.square_scale-square.result = search rules in
    let rc : unsigned_abs p.cost_den * response_scale (design_of p) ^ 2 ≤ 2 ^ 126 = hess_den_room p h room in
    let fl : SFits w128 p.limit_den = denominator_fits p.limit_den h.limit_den in
    let el : p.limit_den ≡ pos (unsigned_abs p.limit_den) = natural p.limit_den h.limit_den.low in
    let rl : unsigned_abs p.limit_den * unsigned_abs p.plant_den ^ p.stages ≤ 2 ^ 126 = row_den_room p (limit_room p h c.requires.sizes.limit_room) in
    let fr : SFits w128 p.row_den = denominator_fits p.row_den h.row_den in
    let fi : SFits w128 c.least_input-input_floor.result = search rules in
    let fb : SFits w128 c.bend_floor.result = search rules in
    let sc : SFits w128 c.args.sizes.cost = size_fits c.args.sizes.cost _ c.requires.sizes.cost_is c.requires.sizes.cost_room in
    let sl : SFits w128 c.args.sizes.limit = size_fits c.args.sizes.limit _ c.requires.sizes.limit_is c.requires.sizes.limit_room in
    exact_form_of p _ h refl
    (record {
      cost_is = to_z-of_z w128 _ sc ∙ c.requires.sizes.cost_is;
      cost_room = c.requires.sizes.cost_room;
      limit_is = to_z-of_z w128 _ sl ∙ c.requires.sizes.limit_is;
      limit_room = c.requires.sizes.limit_room;
    })
    (exact_costs p h _ _ _ _ _ c.requires.costs _ _ _ _ _ c.requires.limits _ c.requires.mids)
    (exact_limits p h _ _ _ _ _ c.requires.costs _ _ _ _ _ c.requires.limits)
    (exact_radii p h _ _ _ _ _ c.requires.costs _ _ _ _ _ c.requires.limits _ c.requires.rads)
    (record {
      power = to_z-of_z w128 _ c.ranges.power ∙ c.requires.power;
      weight_den = to_z-of_z w128 _ fc ∙ ec;
      cost_row_den = to_z-of_z w128 _ fr ∙ natural p.row_den h.row_den.low;
      limit_den = to_z-of_z w128 _ fl ∙ el;
      hess_den = naturals_read p.cost_den c.square_scale-square.result (unsigned_abs p.cost_den) (response_scale (design_of p) ^ 2) fc fs ec c.square_scale-square.ensures rc;
      row_den = naturals_read p.limit_den c.args.power (unsigned_abs p.limit_den) (unsigned_abs p.plant_den ^ p.stages) fl c.ranges.power el c.requires.power rl;
      input_floor = rw (to_z-of_z w128 _ fi) c.least_input-input_floor.ensures;
      floor = to_z-of_z w128 _ fb ∙ c.bend_floor.ensures;
    })

pub square_scale-square-requires-clause-design : goal.square_scale-square-requires-clause-design
square_scale-square-requires-clause-design c = c.requires.design

pub square_scale-square-requires-clause-power : goal.square_scale-square-requires-clause-power
square_scale-square-requires-clause-power c = to_z-of_z w128 _ c.ranges.power ∙ c.requires.power

pub least_input-input_floor-requires : goal.least_input-input_floor-requires
least_input-input_floor-requires c = c.requires.design

pub bend_floor-requires-clause-design : goal.bend_floor-requires-clause-design
bend_floor-requires-clause-design c = c.requires.design

pub bend_floor-requires-clause-square : goal.bend_floor-requires-clause-square
bend_floor-requires-clause-square c =
    let fs : SFits w128 c.square_scale-square.result = search rules in
    to_z-of_z w128 _ fs ∙ c.square_scale-square.ensures

pub bend_floor-requires-clause-least : goal.bend_floor-requires-clause-least
bend_floor-requires-clause-least c =
    let fi : SFits w128 c.least_input-input_floor.result = search rules in
    rw (to_z-of_z w128 _ fi) c.least_input-input_floor.ensures
