use Rattle.hessian_check.proofs.HeldMatrices.{lowered_fits, lowered_is, raised_fits, raised_is}
use Rattle.hessian_check.proofs.held.moved.Goals as goal

pub overflow_add-result : goal.overflow_add-result
overflow_add-result c = raised_fits c.args.entry c.args.by c.requires

pub overflow_sub-result : goal.overflow_sub-result
overflow_sub-result c = lowered_fits c.args.entry c.args.by c.requires

pub returns-then-up : goal.returns-then-up
returns-then-up c = rw c.if-up.true (raised_is c.args.entry c.args.by c.requires)

pub returns-else-up : goal.returns-else-up
returns-else-up c = rw c.if-up.false (lowered_is c.args.entry c.args.by c.requires)
