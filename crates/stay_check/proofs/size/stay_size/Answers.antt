use Rattle.std.proofs.Common.{◌<◌, ◌*◌, arith}
use Rattle.integer_algebra.specs.Sums.{at}
use Rattle.qp_model.specs.problem.Parts.{design_of}
use Rattle.qp_model.proofs.SizeFacts.{greatest_term}
use Rattle.stay_check.specs.FaceForms.{faces_of, face_of}
use Rattle.stay_check.specs.StaySize.{face_size}
use Rattle.stay_check.proofs.size.stay_size.Goals as goal

pub returns-in_err-face_size : goal.returns-in_err-face_size
returns-in_err-face_size c =
    let lt : c.loop-e.e < 2 * c.args.parts.now.states = omega (arith, c.loop-e.invariant.end) in
    rw c.from_residual.ensures (λ h. c.in_err-face_size.ensures
    (omega (arith, greatest_term c.loop-e.e (2 * c.args.parts.now.states) (λ k. face_size (design_of c.args.parts.now) (at c.args.excess.now) (face_of (faces_of c.args.faces.now) k)) lt, h)))
