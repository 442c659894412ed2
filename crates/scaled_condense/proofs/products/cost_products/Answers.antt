use Rattle.scaled_condense.proofs.ProductFacts.{response_room}
use Rattle.scaled_condense.proofs.products.cost_products.Goals as goal

pub cost_columns-requires-clause-fits : goal.cost_columns-requires-clause-fits
cost_columns-requires-clause-fits c = response_room c.args.parts.now c.args.reach c.requires.scale.design c.requires.area
