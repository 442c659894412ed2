use Rattle.std.proofs.Common.{◌≡◌, ◌*◌, ◌^◌, ◌≤◌}
use Rattle.integer_algebra.specs.Sizes.{amount}
use Rattle.qp_model.specs.problem.Parts.{design_of}
use Rattle.stay_check.specs.FaceForms.{faces_of, face_of}
use Rattle.stay_check.specs.StaySize.{coefficient_size}
use Rattle.stay_check.specs.declared.rows.Column.TheVariants.{Input}
use Rattle.stay_check.proofs.size.inputs_size.Given as goal

abbrev pub invariant-loop-l : goal.invariant-loop-l
invariant-loop-l l = record {
  end : l.l-end ≡ l.parts.inputs;
  sum : l.sum ≡ amount l.l (λ k. coefficient_size (design_of l.parts) (face_of (faces_of l.faces) l.e) (Input k));
  small : l.sum ≤ 2 ^ 103 * l.l;
}
