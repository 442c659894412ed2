use Rattle.std.proofs.Common.{◌≡◌, ◌+◌, length}
use Rattle.std.specs.Prelude.{filter}
use Rattle.std.specs.List.{range_with_len}
use Rattle.qp_model.specs.problem.Parts.{design_of}
use Rattle.stay_check.specs.FirstRows.{next_limits, is_on_state}
use Rattle.stay_check.proofs.rows.limit_on_state.Given as goal

abbrev pub invariant-loop-i : goal.invariant-loop-i
invariant-loop-i l = record {
  end : l.i-end ≡ next_limits (design_of l.parts);
  passed : l.left + length (filter (is_on_state (design_of l.parts)) (range_with_len 0 l.i)) ≡ l.k;
}
