use Rattle.std.proofs.Common.{arith}
use Rattle.step_error.specs.ErrorSums.{sums_of}
use Rattle.step_error.proofs.SumFacts.{bounded, room_at}
use Rattle.step_error.proofs.errors.residual_of.Goals as goal

pub overflow_mul-result : goal.overflow_mul-result
overflow_mul-result c = omega (arith, (room_at (sums_of c.args.e.now) 0 c.args.plan (bounded c.args.e.now c.requires.sums) (omega arith) c.requires.plan).residual)

pub overflow_add-result : goal.overflow_add-result
overflow_add-result c = omega (arith, (room_at (sums_of c.args.e.now) 0 c.args.plan (bounded c.args.e.now c.requires.sums) (omega arith) c.requires.plan).residual)

pub overflow_add-result-2 : goal.overflow_add-result-2
overflow_add-result-2 c = omega (arith, (room_at (sums_of c.args.e.now) 0 c.args.plan (bounded c.args.e.now c.requires.sums) (omega arith) c.requires.plan).residual)
