use Rattle.std.proofs.Common.{◌≡◌, ◌*◌, ℕ, ◌<◌}
use Rattle.integer_algebra.specs.Sums.{at}
use Rattle.qp_model.specs.problem.Parts.{design_of}
use Rattle.stay_check.specs.FaceForms.{faces_of, face_of, FaceHolds}
use Rattle.stay_check.proofs.check.test_faces.Given as goal

abbrev pub invariant-loop-e : goal.invariant-loop-e
invariant-loop-e l = record {
  end : l.e-end ≡ 2 * l.parts.states;
  hold : (k : ℕ) → k < l.e → FaceHolds (design_of l.parts) (at l.excess) (at l.low) (at l.high) (face_of (faces_of l.faces) k);
}
