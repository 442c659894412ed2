use Rattle.std.proofs.Common.{◌≡◌, ◌*◌, ◌^◌, ◌≤◌}
use Rattle.integer_algebra.specs.Sums.{at}
use Rattle.qp_model.specs.problem.Parts.{design_of}
use Rattle.qp_model.specs.form.Quantities.{greatest}
use Rattle.stay_check.specs.FaceForms.{faces_of, face_of}
use Rattle.stay_check.specs.StaySize.{face_size}
use Rattle.stay_check.proofs.size.stay_size.Given as goal

abbrev pub invariant-loop-e : goal.invariant-loop-e
invariant-loop-e l = record {
  end : l.e-end ≡ 2 * l.parts.states;
  most : l.most ≡ greatest l.e (λ k. face_size (design_of l.parts) (at l.excess) (face_of (faces_of l.faces) k));
  room : l.most ≤ 2 ^ 126;
}
