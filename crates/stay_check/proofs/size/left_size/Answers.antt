use Rattle.std.proofs.Common.{◌<◌, ◌∙◌, ℕ, arith, refl}
use Rattle.integer_algebra.specs.Sums.{at}
use Rattle.integer_algebra.proofs.SizeLaws.{amount_term, amount_next, amount_more}
use Rattle.qp_model.specs.problem.Parts.{design_of}
use Rattle.stay_check.specs.FirstRows.{first_row_count}
use Rattle.stay_check.specs.FaceForms.{faces_of, face_of}
use Rattle.stay_check.specs.StaySize.{left_term}
use Rattle.stay_check.proofs.size.left_size.Goals as goal

pub returns-in_err-left_term : goal.returns-in_err-left_term
returns-in_err-left_term c =
    let d = design_of c.args.parts.now in
    let term : ℕ → ℕ = left_term d (at c.args.excess.now) (face_of (faces_of c.args.faces.now) c.args.e) in
    let lt : c.loop-r.r < first_row_count d = omega (arith, c.loop-r.invariant.end) in
    rw c.from_residual.ensures (λ h. c.in_err-left_term.ensures (omega (arith, amount_term c.loop-r.r (first_row_count d) term lt, h)))

pub returns-in_err-sum : goal.returns-in_err-sum
returns-in_err-sum c =
    let d = design_of c.args.parts.now in
    let term : ℕ → ℕ = left_term d (at c.args.excess.now) (face_of (faces_of c.args.faces.now) c.args.e) in
    let lt : c.loop-r.r < first_row_count d = omega (arith, c.loop-r.invariant.end) in
    rw c.from_residual-in_err-sum.ensures (λ h. c.in_err-sum.ensures (omega (arith, amount_next c.loop-r.r (first_row_count d) term lt, c.loop-r.invariant.sum, c.in_ok-left_term.ensures.1, h)))

pub loop-r-preserved : goal.loop-r-preserved
loop-r-preserved c =
    let d = design_of c.args.parts.now in
    let term : ℕ → ℕ = left_term d (at c.args.excess.now) (face_of (faces_of c.args.faces.now) c.args.e) in
    record {
      end = c.loop-r.invariant.end;
      sum = c.in_ok-sum.ensures.1 ∙ rw (amount_more c.loop-r.r term, c.loop-r.invariant.sum, c.in_ok-left_term.ensures.1) refl;
      room = omega (arith, c.in_ok-sum.ensures.0, c.in_ok-sum.ensures.1);
    }
