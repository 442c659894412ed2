use Rattle.std.proofs.Common.{◌≡◌, ℤ, List, length, rules, FitsSigned, arith, ap, ◌∙◌, refl}
use Rattle.std.specs.Int.{w128}
use Rattle.std.proofs.lemmas.Int.{to_z-of_z}
use Rattle.qp_model.specs.problem.Parts.{design_of}
use Rattle.condensed_form.specs.Form.{IsLeastInput}
use Rattle.condensed_form.proofs.DenominatorFacts.{least_weight}
use Rattle.scaled_condense.proofs.FloorFacts.{shifted_fits, denominator_weight, hess_den_is, row_den_is, den_is, size_fits, size_is}
use Rattle.scaled_condense.proofs.FineFacts.{weight_room}
use Rattle.scaled_condense.proofs.FormLaws.{numbers_of, form_of}
use Rattle.scaled_condense.proofs.form.assembled.Goals as goal

pub brought_weight-requires-clause-weight : goal.brought_weight-requires-clause-weight
brought_weight-requires-clause-weight c = denominator_weight c.args.parts.now.cost_den c.requires.design.cost_den

pub brought_weight-requires-clause-room : goal.brought_weight-requires-clause-room
brought_weight-requires-clause-room c = weight_room _ _ (denominator_weight c.args.parts.now.cost_den c.requires.design.cost_den) c.requires.design.row_den

pub bend_floor-requires-clause-least : goal.bend_floor-requires-clause-least
bend_floor-requires-clause-least c =
    let f : FitsSigned w128 c.least_of-input_floor.result = search rules in
    rw (to_z-of_z w128 _ f) (least_weight c.args.parts.now c.requires.design c.deref.result.now c.least_of-input_floor.result c.deref.ensures.value
    c.least_of-input_floor.ensures.below c.least_of-input_floor.ensures.met)

pub returns : goal.returns
returns c =
    let p = c.args.parts.now in
    let h = c.requires.design in
    let k = c.requires.costs in
    let l = c.requires.limits in
    let fi : FitsSigned w128 c.least_of-input_floor.result = search rules in
    let fb : FitsSigned w128 c.bend_floor.result = search rules in
    let fh : FitsSigned w128 c.brought_weight.result = search rules in
    let fr : FitsSigned w128 c.scaled.result = search rules in
    let least : IsLeastInput (design_of p) c.least_of-input_floor.result =
    least_weight p h c.deref.result.now c.least_of-input_floor.result c.deref.ensures.value c.least_of-input_floor.ensures.below c.least_of-input_floor.ensures.met in
    form_of p _ h (numbers_of p _ _ _ _ _ k l c.requires.mids c.requires.rads) k.scale k.room l.room
    (record {
      weight_den = den_is p.cost_den h.cost_den;
      cost_row_den = den_is p.row_den h.row_den;
      limit_den = den_is p.limit_den h.limit_den;
      power = refl;
      hess_den = hess_den_is p h c.brought_weight.result fh c.brought_weight.ensures.value;
      row_den = row_den_is p h c.scaled.result fr c.scaled.ensures;
      input_floor = rw (to_z-of_z w128 _ fi) least;
      floor = to_z-of_z w128 _ fb ∙ c.bend_floor.ensures;
      hess_size = size_is _ _ k.quantity k.room;
      rows_size = size_is _ _ l.quantity l.room;
      fine = refl;
    })

pub scaled-requires-clause-fits : goal.scaled-requires-clause-fits
scaled-requires-clause-fits c = shifted_fits c.args.parts.now.limit_den c.requires.design.limit_den

pub least_of-input_floor-requires : goal.least_of-input_floor-requires
least_of-input_floor-requires c =
    let count : length c.deref.result.now ≡ c.args.parts.now.inputs = ap (λ (xs : List ℤ). length xs) c.deref.ensures.value ∙ c.requires.design.input_count in
    omega (arith, count, c.requires.design.inputs)

pub overflow_cast-hess_size : goal.overflow_cast-hess_size
overflow_cast-hess_size c = size_fits c.args.numbers.costs.size _ c.requires.costs.quantity c.requires.costs.room

pub overflow_cast-rows_size : goal.overflow_cast-rows_size
overflow_cast-rows_size c = size_fits c.args.numbers.limits.size _ c.requires.limits.quantity c.requires.limits.room

pub bend_floor-requires-clause-radius : goal.bend_floor-requires-clause-radius
bend_floor-requires-clause-radius c = c.requires.costs.widest

pub bend_floor-requires-clause-room : goal.bend_floor-requires-clause-room
bend_floor-requires-clause-room c = c.requires.costs.room

pub bend_floor-requires-clause-design : goal.bend_floor-requires-clause-design
bend_floor-requires-clause-design c = c.requires.design

pub brought_weight-requires-clause-design : goal.brought_weight-requires-clause-design
brought_weight-requires-clause-design c = c.requires.design
