use Rattle.std.proofs.Common.{arith}
use Rattle.condensed_form.proofs.CountedFacts.{costs_few}
use Rattle.condensed_form.proofs.stacked.cost_count.Goals as goal

pub count_of-requires : goal.count_of-requires
count_of-requires c = omega (arith, costs_few c.args.parts.now c.requires)
