use Rattle.std.proofs.Common.{◌≤◌, ◌^◌, unsigned_abs}
use Rattle.integer_algebra.specs.Sums.{at}
use Rattle.qp_model.specs.form.Quantities.{greatest}
use Rattle.qp_model.specs.bounds.Excess.{brought, reach}
use Rattle.scaled_run.specs.Lists.{HoldsEnclosures}
use Rattle.plan_excess.proofs.rows.numbers.Given as goal

abbrev pub invariant-loop-i : goal.invariant-loop-i
invariant-loop-i l = record {
  made : HoldsEnclosures l.out.items l.i (λ i. brought (unsigned_abs l.den) (at l.mids i) (unsigned_abs (at l.rads i)));
  near : greatest l.i (λ i. reach (brought (unsigned_abs l.den) (at l.mids i) (unsigned_abs (at l.rads i)))) ≤ 2 ^ 126;
}
