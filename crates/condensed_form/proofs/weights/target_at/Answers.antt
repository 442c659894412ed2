use Rattle.std.proofs.Common.{rules, arith, ◌∙◌}
use Rattle.std.specs.Int.{w128}
use mir.Val.{SFits}
use Rattle.std.proofs.lemmas.Int.{to_z-of_z}
use Rattle.condensed_form.proofs.CountedFacts.{costs_few}
use Rattle.condensed_form.proofs.weights.target_at.Goals as goal

pub number_at-requires-clause-count : goal.number_at-requires-clause-count
number_at-requires-clause-count c = omega (arith, costs_few c.args.parts.now c.requires.design)

pub number_at-requires-clause-stage : goal.number_at-requires-clause-stage
number_at-requires-clause-stage c = omega (arith, c.requires.design.stage_cost.cols)

pub number_at-requires-clause-last : goal.number_at-requires-clause-last
number_at-requires-clause-last c = omega (arith, c.requires.design.final_cost.cols)

pub number_at-requires-clause-row : goal.number_at-requires-clause-row
number_at-requires-clause-row c = c.requires.row

pub returns : goal.returns
returns c =
    let s : SFits w128 c.number_at.result = search rules in
    to_z-of_z w128 _ s ∙ c.number_at.ensures
