use Rattle.std.proofs.Common.{◌≡◌, ◌^◌, ◌≤◌}
use Rattle.integer_algebra.specs.Sums.{at}
use Rattle.integer_algebra.specs.Sizes.{amount}
use Rattle.qp_model.specs.problem.Parts.{design_of}
use Rattle.stay_check.specs.FirstRows.{first_row_count}
use Rattle.stay_check.specs.FaceForms.{faces_of, face_of}
use Rattle.stay_check.specs.StaySize.{left_term}
use Rattle.stay_check.proofs.size.left_size.Given as goal

abbrev pub invariant-loop-r : goal.invariant-loop-r
invariant-loop-r l = record {
  end : l.r-end ≡ first_row_count (design_of l.parts);
  sum : l.sum ≡ amount l.r (left_term (design_of l.parts) (at l.excess) (face_of (faces_of l.faces) l.e));
  room : l.sum ≤ 2 ^ 126;
}
