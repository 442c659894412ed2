use Rattle.std.proofs.Common.{◌++◌}
use Rattle.std.proofs.lemmas.Result.{err_from_is_err_and}
use Rattle.qp_model.proofs.RuleLaws.{all_hold}
use Rattle.design_files.specs.Keys.{seen}
use Rattle.design_files.specs.Places.{size_places, plant_places, cost_places}
use Rattle.design_files.proofs.ReadLaws.{fails_before, fails_after}
use Rattle.design_files.proofs.PlaceLaws.{states_are, inputs_are}
use Rattle.design_files.specs.Numbers.{count_of}
use Rattle.design_files.proofs.places.read_first.Goals as goal

pub returns-in_err-sizes : goal.returns-in_err-sizes
returns-in_err-sizes c =
    let v = seen c.args.keys.now in
    let n = count_of v.states in
    let p = count_of v.inputs in
    let e = err_from_is_err_and c.from_residual.result c.from_residual.ensures.1 in
    rw (e.1, e.2) (fails_before (size_places v) (plant_places n p v ++ cost_places n p v) _ c.in_err-sizes.ensures)

pub returns-in_err-plant : goal.returns-in_err-plant
returns-in_err-plant c =
    let v = seen c.args.keys.now in
    let s = c.in_ok-sizes.sizes in
    let n = s.states in
    let p = s.inputs in
    let found = c.in_ok-sizes.ensures in
    let e = err_from_is_err_and c.from_residual-in_err-plant.result c.from_residual-in_err-plant.ensures.1 in
    rw (e.1, e.2, states_are v s found.1, inputs_are v s found.1) (fails_after (size_places v) (plant_places n p v ++ cost_places n p v) _ found.0 (fails_before (plant_places n p v) (cost_places n p v) _ c.in_err-plant.ensures))

pub returns-in_err-cost : goal.returns-in_err-cost
returns-in_err-cost c =
    let v = seen c.args.keys.now in
    let s = c.in_ok-sizes.sizes in
    let n = s.states in
    let p = s.inputs in
    let found = c.in_ok-sizes.ensures in
    let e = err_from_is_err_and c.from_residual-in_err-cost.result c.from_residual-in_err-cost.ensures.1 in
    rw (e.1, e.2, states_are v s found.1, inputs_are v s found.1) (fails_after (size_places v) (plant_places n p v ++ cost_places n p v) _ found.0 (fails_after (plant_places n p v) (cost_places n p v) _ c.in_ok-plant.ensures.0 c.in_err-cost.ensures))

pub returns : goal.returns
returns c =
    let v = seen c.args.keys.now in
    let s = c.in_ok-sizes.sizes in
    let n = s.states in
    let p = s.inputs in
    let found = c.in_ok-sizes.ensures in
    let held = all_hold (size_places v) (plant_places n p v ++ cost_places n p v) found.0 (all_hold (plant_places n p v) (cost_places n p v) c.in_ok-plant.ensures.0 c.in_ok-cost.ensures.0) in
    (rw (states_are v s found.1, inputs_are v s found.1) held, record { sizes = found.1; plant = c.in_ok-plant.ensures.1; cost = c.in_ok-cost.ensures.1 })
