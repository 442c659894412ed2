use Rattle.hessian_check.specs.Lowering.{IsLoweredSo}
use Rattle.hessian_check.proofs.row_exponents.lowered.Given as goal

abbrev pub invariant-loop-k : goal.invariant-loop-k
invariant-loop-k l = IsLoweredSo l.c l.s l.before l.k l.matrices l.sums
