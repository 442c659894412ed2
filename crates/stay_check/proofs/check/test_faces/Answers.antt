use Rattle.std.proofs.Common.{◌*◌, arith, below_more}
use Rattle.integer_algebra.specs.Sums.{at}
use Rattle.qp_model.specs.problem.Parts.{design_of}
use Rattle.qp_model.proofs.SizeFacts.{greatest_term}
use Rattle.stay_check.specs.FaceForms.{faces_of, face_of}
use Rattle.stay_check.specs.StaySize.{face_size}
use Rattle.stay_check.proofs.check.test_faces.Goals as goal

pub test_face-requires-clause-narrow : goal.test_face-requires-clause-narrow
test_face-requires-clause-narrow c =
    omega (arith, greatest_term c.loop-e.e (2 * c.args.parts.now.states) (λ k. face_size (design_of c.args.parts.now) (at c.args.excess.now) (face_of (faces_of c.args.faces.now) k)) (omega (arith, c.loop-e.invariant.end)), c.in-Some.ensures.0)

pub loop-e-preserved : goal.loop-e-preserved
loop-e-preserved c = record { end = c.loop-e.invariant.end; hold = below_more _ _ c.loop-e.invariant.hold c.in_ok-test_face.ensures.right }
