use Rattle.std.proofs.Common.{arith}
use Rattle.std.proofs.lemmas.Result.{IfOk-weaker}
use Rattle.qp_model.specs.problem.Parts.{design_of}
use Rattle.qp_model.specs.problem.Runs.{counts}
use Rattle.qp_model.proofs.VersionLaws.{design_states_le}
use Rattle.condensed_form.specs.Costs.{weight_of}
use Rattle.condensed_form.proofs.CountedFacts.{costs_few, weight_room, once}
use Rattle.condensed_form.proofs.weights.weights_of.Goals as goal

pub overflow_add-w : goal.overflow_add-w
overflow_add-w c = omega (arith, design_states_le c.args.parts.now c.requires)

pub scaled_numbers-requires-clause-count : goal.scaled_numbers-requires-clause-count
scaled_numbers-requires-clause-count c = omega (arith, costs_few c.args.parts.now c.requires)

pub scaled_numbers-requires-clause-stage : goal.scaled_numbers-requires-clause-stage
scaled_numbers-requires-clause-stage c = omega (arith, c.requires.stage_cost.cols)

pub scaled_numbers-requires-clause-last : goal.scaled_numbers-requires-clause-last
scaled_numbers-requires-clause-last c = omega (arith, c.requires.final_cost.cols)

pub scaled_numbers-requires-clause-fits : goal.scaled_numbers-requires-clause-fits
scaled_numbers-requires-clause-fits c = weight_room c.args.parts.now c.requires

pub returns : goal.returns
returns c =
    IfOk-weaker c.scaled_numbers.result _ _ (λ v h. once v.items (counts (design_of c.args.parts.now)) (weight_of (design_of c.args.parts.now)) h) c.scaled_numbers.ensures
