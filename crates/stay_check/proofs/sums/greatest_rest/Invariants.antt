use Rattle.std.proofs.Common.{◌≡◌}
use Rattle.integer_algebra.specs.Sums.{total}
use Rattle.qp_model.specs.problem.Parts.{design_of}
use Rattle.stay_check.specs.FaceForms.{faces_of, face_of, rest_over_box}
use Rattle.stay_check.proofs.sums.greatest_rest.Given as goal

abbrev pub invariant-loop-j : goal.invariant-loop-j
invariant-loop-j l = record {
  end : l.j-end ≡ l.parts.states;
  sum : l.sum ≡ total l.j (rest_over_box (design_of l.parts) (face_of (faces_of l.faces) l.e));
}
