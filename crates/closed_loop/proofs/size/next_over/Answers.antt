use Rattle.std.proofs.Common.{rules, FitsSigned}
use Rattle.std.specs.Int.{w128}
use Rattle.std.proofs.lemmas.Int.{to_z-of_z}
use Rattle.closed_loop.proofs.Overs.{over_fits, over_is}
use Rattle.closed_loop.proofs.size.next_over.Goals as goal

pub overflow_mul-result : goal.overflow_mul-result
overflow_mul-result g c =
    let den : FitsSigned w128 c.args.design.now.plant_den = search rules in
    let scale : FitsSigned w128 c.grid_scale.result = search rules in
    rw (to_z-of_z w128 _ den, to_z-of_z w128 _ scale) (over_fits c.args.design.now.plant_den c.grid_scale.result c.requires.plant_den c.grid_scale.ensures.small)

pub returns-clause-value : goal.returns-clause-value
returns-clause-value g c =
    let den : FitsSigned w128 c.args.design.now.plant_den = search rules in
    let scale : FitsSigned w128 c.grid_scale.result = search rules in
    rw (to_z-of_z w128 _ den, to_z-of_z w128 _ scale, to_z-of_z w128 _ (over_fits c.args.design.now.plant_den c.grid_scale.result c.requires.plant_den c.grid_scale.ensures.small))
    (over_is c.args.design.now.plant_den c.grid_scale.result _ c.requires.plant_den c.grid_scale.ensures.value)

pub returns-clause-inside : goal.returns-clause-inside
returns-clause-inside g c = c.grid_scale.ensures.inside
