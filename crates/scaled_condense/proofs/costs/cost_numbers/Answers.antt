use Rattle.std.proofs.Common.{ℕ, ◌*◌, ◌^◌, ◌≤◌, arith}
use Rattle.scaled_condense.proofs.costs.cost_numbers.Goals as goal

quarter : {n : ℕ} → 4 * n ≤ 2 ^ 126 → n ≤ 2 ^ 126
quarter h = omega (arith, h)

pub cost_products-requires-clause-area : goal.cost_products-requires-clause-area
cost_products-requires-clause-area c = quarter c.requires.area

pub cost_of_products-requires : goal.cost_of_products-requires
cost_of_products-requires c = record { reach = c.args.reach; scale = c.requires.scale; some = c.requires.some; area = c.requires.area; held = c.in_ok-products.ensures }

pub returns : goal.returns
returns c = c.cost_of_products.ensures
