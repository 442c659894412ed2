use Rattle.std.proofs.Common.{◌≡◌}
use Rattle.integer_algebra.specs.Sizes.{size}
use Rattle.qp_model.specs.problem.Parts.{design_of}
use Rattle.stay_check.proofs.rows.has_no_input.Given as goal

abbrev pub invariant-loop-l : goal.invariant-loop-l
invariant-loop-l l = record {
  end : l.l-end ≡ l.parts.inputs;
  none : size l.l ((design_of l.parts).stage_limit l.i).of_input ≡ 0;
}
