use Rattle.std.proofs.Common.{◌≡◌}
use Rattle.integer_algebra.specs.Sums.{total, at}
use Rattle.qp_model.specs.problem.Parts.{design_of}
use Rattle.stay_check.specs.FirstRows.{first_row_count}
use Rattle.stay_check.specs.FaceForms.{faces_of, face_of, row_left}
use Rattle.stay_check.proofs.sums.left_by_rows.Given as goal

abbrev pub invariant-loop-r : goal.invariant-loop-r
invariant-loop-r l = record {
  end : l.r-end ≡ first_row_count (design_of l.parts);
  sum : l.sum ≡ total l.r (row_left (design_of l.parts) (at l.excess) (face_of (faces_of l.faces) l.e));
}
