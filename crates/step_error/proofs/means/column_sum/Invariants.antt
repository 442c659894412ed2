use Rattle.std.proofs.Common.{◌≡◌, ◌+◌, ◌*◌, ◌^◌, ◌≤◌}
use Rattle.integer_algebra.specs.Sizes.{amount}
use Rattle.step_error.specs.ErrorSums.{farthest_entry}
use Rattle.step_error.specs.CarriedErrors.{lowered_sum}
use Rattle.step_error.proofs.means.column_sum.Given as goal

abbrev pub invariant-loop-i : goal.invariant-loop-i
invariant-loop-i l = record {
  value : 2 ^ l.s * l.sum.whole + l.sum.rest ≡ lowered_sum l.i (λ i. farthest_entry l.rows l.radii i l.j) l.s l.exps;
  whole : l.sum.whole ≤ amount l.i (λ i. farthest_entry l.rows l.radii i l.j);
  rest : l.sum.rest ≤ l.i * 2 ^ 40;
}
