use Rattle.std.proofs.Common.{◌<◌, ◌^◌, rules, arith, refl, FitsSigned, add-one}
use Rattle.std.specs.Int.{w128}
use Rattle.std.proofs.lemmas.Int.{to_z-of_z}
use Rattle.integer_algebra.specs.Sums.{at}
use Rattle.integer_algebra.specs.Sizes.{size}
use Rattle.integer_algebra.proofs.SizeLaws.{sum_room, amount_term}
use Rattle.qp_model.specs.problem.Parts.{design_of}
use Rattle.stay_check.specs.FirstRows.{first_row_count}
use Rattle.stay_check.specs.FaceForms.{faces_of, face_of, row_left}
use Rattle.stay_check.specs.StaySize.{left_term}
use Rattle.stay_check.proofs.SumFacts.{rows_left_size}
use Rattle.stay_check.proofs.sums.left_by_rows.Goals as goal

pub left_by_row-sum-requires-clause-narrow : goal.left_by_row-sum-requires-clause-narrow
left_by_row-sum-requires-clause-narrow c =
    let d = design_of c.args.parts.now in
    let lt : c.loop-r.r < first_row_count d = omega (arith, c.loop-r.invariant.end) in
    omega (arith, amount_term c.loop-r.r (first_row_count d) (left_term d (at c.args.excess.now) (face_of (faces_of c.args.faces.now) c.args.e)) lt, c.requires.narrow)

pub overflow_add-sum : goal.overflow_add-sum
overflow_add-sum c =
    let d = design_of c.args.parts.now in
    let f = face_of (faces_of c.args.faces.now) c.args.e in
    let a : FitsSigned w128 c.left_by_row-sum.result = search rules in
    let lt : c.loop-r.r < first_row_count d = omega (arith, c.loop-r.invariant.end) in
    let room : size (first_row_count d) (row_left d (at c.args.excess.now) f) < 2 ^ 127 = omega (arith, rows_left_size d (at c.args.excess.now) f, c.requires.narrow) in
    rw (to_z-of_z w128 _ a, c.left_by_row-sum.ensures, c.loop-r.invariant.sum) (sum_room w128 c.loop-r.r (first_row_count d) (row_left d (at c.args.excess.now) f) lt room)

pub loop-r-preserved : goal.loop-r-preserved
loop-r-preserved c =
    let d = design_of c.args.parts.now in
    let f = face_of (faces_of c.args.faces.now) c.args.e in
    let a : FitsSigned w128 c.left_by_row-sum.result = search rules in
    let lt : c.loop-r.r < first_row_count d = omega (arith, c.loop-r.invariant.end) in
    let room : size (first_row_count d) (row_left d (at c.args.excess.now) f) < 2 ^ 127 = omega (arith, rows_left_size d (at c.args.excess.now) f, c.requires.narrow) in
    record {
      end = c.loop-r.invariant.end;
      sum = rw (to_z-of_z w128 _ a, c.left_by_row-sum.ensures, c.loop-r.invariant.sum, to_z-of_z w128 _ (sum_room w128 c.loop-r.r (first_row_count d) (row_left d (at c.args.excess.now) f) lt room), add-one) refl;
    }
