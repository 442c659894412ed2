use Rattle.std.proofs.Common.{◌≡◌, ◌*◌, ◌^◌, ◌≤◌, unsigned_abs}
use Rattle.integer_algebra.specs.Sizes.{amount}
use Rattle.qp_model.specs.problem.Parts.{design_of}
use Rattle.stay_check.specs.FirstRows.{first_row_count, first_row}
use Rattle.stay_check.specs.FaceForms.{faces_of, face_of}
use Rattle.stay_check.specs.Columns.{coefficient}
use Rattle.stay_check.proofs.size.weighted_rows_size.Given as goal

abbrev pub invariant-loop-r : goal.invariant-loop-r
invariant-loop-r l = record {
  end : l.r-end ≡ first_row_count (design_of l.parts);
  few : l.r-end ≤ 24;
  sum : l.sum ≡ amount l.r (λ r. unsigned_abs ((face_of (faces_of l.faces) l.e).weight r) * unsigned_abs (coefficient (first_row (design_of l.parts) r) l.column));
  small : l.sum ≤ 2 ^ 97 * l.r;
}
