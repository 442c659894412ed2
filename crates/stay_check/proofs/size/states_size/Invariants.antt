use Rattle.std.proofs.Common.{◌≡◌, ◌*◌, ◌^◌, ◌≤◌}
use Rattle.integer_algebra.specs.Sizes.{amount}
use Rattle.qp_model.specs.problem.Parts.{design_of}
use Rattle.stay_check.specs.FaceForms.{faces_of, face_of}
use Rattle.stay_check.specs.StaySize.{coefficient_size}
use Rattle.stay_check.specs.declared.rows.Column.TheVariants.{State}
use Rattle.stay_check.proofs.size.states_size.Given as goal

abbrev pub invariant-loop-j : goal.invariant-loop-j
invariant-loop-j l = record {
  end : l.j-end ≡ l.parts.states;
  sum : l.sum ≡ amount l.j (λ k. coefficient_size (design_of l.parts) (face_of (faces_of l.faces) l.e) (State k));
  small : l.sum ≤ 2 ^ 103 * l.j;
}
