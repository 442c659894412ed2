use Rattle.std.proofs.Common.{sym, arith}
use Rattle.qp_model.specs.machine.Controller.{numbers}
use Rattle.qp_model.proofs.VersionLaws.{states_le, limits_le}
use Rattle.overflow_check.specs.FastController.{with_last_version}
use Rattle.overflow_check.proofs.Machines.{by_weights, shared, some_bound}
use Rattle.overflow_check.proofs.absolute_sums.greatest_numbers.Goals as goal

pub state_magnitudes-states-requires : goal.state_magnitudes-states-requires
state_magnitudes-states-requires c = shared c.args.machine (numbers c.args.parts.now) c.requires

pub clamp_magnitudes-clamps-requires : goal.clamp_magnitudes-clamps-requires
clamp_magnitudes-clamps-requires c = shared c.args.machine (numbers c.args.parts.now) c.requires

pub weights_of-weights-requires : goal.weights_of-weights-requires
weights_of-weights-requires c = c.requires

pub slice_bounds-states-end : goal.slice_bounds-states-end
slice_bounds-states-end c = omega (arith, states_le (with_last_version (numbers c.args.parts.now)) (shared c.args.machine (numbers c.args.parts.now) c.requires))

pub slice_bounds-clamps-end : goal.slice_bounds-clamps-end
slice_bounds-clamps-end c = omega (arith, limits_le (with_last_version (numbers c.args.parts.now)) (shared c.args.machine (numbers c.args.parts.now) c.requires))

pub greatest_within-requires : goal.greatest_within-requires
greatest_within-requires c = record {
  sized = shared c.args.machine (numbers c.args.parts.now) c.requires;
  states = c.state_magnitudes-states.ensures;
  clamps = c.clamp_magnitudes-clamps.ensures;
}

pub returns : goal.returns
returns c =
    let n = numbers c.args.parts.now in
    rw (by_weights c.args.machine n (some_bound c.args.machine n c.requires), sym c.weights_of-weights.ensures) c.greatest_within.ensures
