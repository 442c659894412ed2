use Rattle.std.proofs.Common.{◌<◌, ◌^◌, rules, arith, refl, FitsSigned, add-one}
use Rattle.std.specs.Int.{w128}
use Rattle.std.proofs.lemmas.Int.{to_z-of_z}
use Rattle.integer_algebra.specs.Sizes.{size}
use Rattle.integer_algebra.proofs.SizeLaws.{sum_room}
use Rattle.qp_model.specs.problem.Parts.{design_of}
use Rattle.stay_check.specs.FaceForms.{faces_of, face_of, rest_over_box}
use Rattle.stay_check.proofs.SumFacts.{rests_size, box_part}
use Rattle.stay_check.proofs.sums.greatest_rest.Goals as goal

pub overflow_add-sum : goal.overflow_add-sum
overflow_add-sum c =
    let d = design_of c.args.parts.now in
    let f = face_of (faces_of c.args.faces.now) c.args.e in
    let a : FitsSigned w128 c.rest_over_box-sum.result = search rules in
    let room : size d.states (rest_over_box d f) < 2 ^ 127 = omega (arith, rests_size d f, box_part d f c.requires.narrow) in
    rw (to_z-of_z w128 _ a, c.rest_over_box-sum.ensures, c.loop-j.invariant.sum) (sum_room w128 c.loop-j.j d.states (rest_over_box d f) c.loop-j-test.true room)

pub loop-j-preserved : goal.loop-j-preserved
loop-j-preserved c =
    let d = design_of c.args.parts.now in
    let f = face_of (faces_of c.args.faces.now) c.args.e in
    let a : FitsSigned w128 c.rest_over_box-sum.result = search rules in
    let room : size d.states (rest_over_box d f) < 2 ^ 127 = omega (arith, rests_size d f, box_part d f c.requires.narrow) in
    record {
      end = c.loop-j.invariant.end;
      sum = rw (to_z-of_z w128 _ a, c.rest_over_box-sum.ensures, c.loop-j.invariant.sum, to_z-of_z w128 _ (sum_room w128 c.loop-j.j d.states (rest_over_box d f) c.loop-j-test.true room), add-one) refl;
    }
