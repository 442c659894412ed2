use Rattle.hessian_check.specs.Lowering.{HasLoweredRows}
use Rattle.hessian_check.proofs.row_exponents.lowered_from.Given as goal

abbrev pub invariant-loop : goal.invariant-loop
invariant-loop l = HasLoweredRows l.c l.s l.list.items l.counter l.matrices l.sums
