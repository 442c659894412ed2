use Rattle.std.proofs.Common.{◌≡◌, ℕ, ◌+◌, ◌<◌, pos, length, unsigned_abs, vec_len}
use Rattle.integer_algebra.specs.Sums.{at}
use Rattle.hessian_check.specs.RowExponents.{exponent_in}
use Rattle.design_engine.specs.Terms.{row_bound}
use Rattle.design_engine.proofs.bounds.violations_by.Given as goal

abbrev pub invariant-loop-i : goal.invariant-loop-i
invariant-loop-i l = record {
  long : vec_len l.out ≡ length l.exps;
  each : (k : ℕ) → k < l.i → at l.out.items k ≡ pos (row_bound l.run.target (exponent_in l.exps k + l.more) l.run.s (unsigned_abs l.run.r) l.run.k (unsigned_abs l.run.eps));
}
