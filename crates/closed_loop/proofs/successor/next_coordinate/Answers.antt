use Rattle.std.proofs.Common.{rules, refl, le_trans, FitsSigned}
use Rattle.std.specs.Int.{w128}
use Rattle.std.proofs.lemmas.Int.{to_z-of_z}
use Rattle.integer_algebra.proofs.DivisionLaws.{round_of_is}
use Rattle.qp_model.specs.problem.Parts.{design_of}
use Rattle.closed_loop.specs.Looping.{grid_scale_by, next_sum_by, next_over_by}
use Rattle.stay_check.proofs.SumFacts.{round_size}
use Rattle.closed_loop.proofs.Reaches.{scale_some, next_small}
use Rattle.closed_loop.proofs.Overs.{over_some, at_least_one}
use Rattle.closed_loop.proofs.successor.next_coordinate.Goals as goal

pub round_div-requires : goal.round_div-requires
round_div-requires g c =
    let a = g.M.ControlMachine.looping c.args.machine.now in
    let over : FitsSigned w128 c.next_over-over.result = search rules in
    rw (to_z-of_z w128 _ over, c.next_over-over.ensures.value) (at_least_one _ (over_some c.args.design.now.plant_den (grid_scale_by a) c.requires.design.plant_den (scale_some a c.next_over-over.ensures.sound)))

pub returns-clause-value : goal.returns-clause-value
returns-clause-value g c =
    let sum : FitsSigned w128 c.next_sum.result = search rules in
    let over : FitsSigned w128 c.next_over-over.result = search rules in
    let rounded : FitsSigned w128 c.round_div.result = search rules in
    rw (to_z-of_z w128 _ rounded, c.round_div.ensures, to_z-of_z w128 _ sum, to_z-of_z w128 _ over, c.next_sum.ensures, c.next_over-over.ensures.value) refl

pub returns-clause-nearest : goal.returns-clause-nearest
returns-clause-nearest g c =
    let d = design_of c.args.design.now in
    let a = g.M.ControlMachine.looping c.args.machine.now in
    let sum : FitsSigned w128 c.next_sum.result = search rules in
    let over : FitsSigned w128 c.next_over-over.result = search rules in
    let rounded : FitsSigned w128 c.round_div.result = search rules in
    rw (to_z-of_z w128 _ rounded, c.round_div.ensures, to_z-of_z w128 _ sum, to_z-of_z w128 _ over, c.next_sum.ensures, c.next_over-over.ensures.value)
    (round_of_is (next_sum_by d a c.args.state.now c.args.i) (next_over_by d a) (over_some c.args.design.now.plant_den (grid_scale_by a) c.requires.design.plant_den (scale_some a c.next_over-over.ensures.sound)))

pub returns-clause-small : goal.returns-clause-small
returns-clause-small g c =
    let d = design_of c.args.design.now in
    let a = g.M.ControlMachine.looping c.args.machine.now in
    let xi = c.args.state.now in
    let sum : FitsSigned w128 c.next_sum.result = search rules in
    let over : FitsSigned w128 c.next_over-over.result = search rules in
    let rounded : FitsSigned w128 c.round_div.result = search rules in
    rw (to_z-of_z w128 _ rounded, c.round_div.ensures, to_z-of_z w128 _ sum, to_z-of_z w128 _ over, c.next_sum.ensures, c.next_over-over.ensures.value)
    (le_trans (round_size (next_sum_by d a xi c.args.i) (next_over_by d a) (over_some c.args.design.now.plant_den (grid_scale_by a) c.requires.design.plant_den (scale_some a c.next_over-over.ensures.sound)))
    (next_small d a xi c.args.i c.requires.matched c.next_over-over.ensures.sound (c.next_over-over.ensures.inside xi c.requires.state) c.requires.narrow c.requires.in_range))
