use Rattle.std.proofs.Common.{◌≡◌, ℕ, ◌<◌}
use Rattle.qp_model.specs.problem.Parts.{design_of}
use Rattle.stay_check.specs.FaceForms.{faces_of, face_of, input_of_rows, input_of_coordinate}
use Rattle.stay_check.proofs.check.test_inputs.Given as goal

abbrev pub invariant-loop-l : goal.invariant-loop-l
invariant-loop-l l = record {
  end : l.l-end ≡ l.parts.inputs;
  equal : (k : ℕ) → k < l.l → input_of_rows (design_of l.parts) (face_of (faces_of l.faces) l.e) k ≡ input_of_coordinate (design_of l.parts) (face_of (faces_of l.faces) l.e) k;
}
