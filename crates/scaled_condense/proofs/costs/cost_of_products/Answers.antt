use Rattle.scaled_condense.proofs.costs.cost_of_products.Goals as goal

pub hessian_numbers-requires : goal.hessian_numbers-requires
hessian_numbers-requires c = c.requires

pub linear_numbers-requires : goal.linear_numbers-requires
linear_numbers-requires c = c.requires

pub constant_numbers-requires : goal.constant_numbers-requires
constant_numbers-requires c = c.requires

pub returns : goal.returns
returns c = record { hess = c.in_ok-hess.ensures; lin = c.in_ok-lin.ensures; constant = c.in_ok-off.ensures }
