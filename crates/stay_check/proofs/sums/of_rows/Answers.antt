use Rattle.std.proofs.Common.{◌<◌, ◌^◌, rules, arith, refl, FitsSigned, add-one, unsigned_abs, to_z}
use Rattle.std.specs.Int.{w128}
use Rattle.std.proofs.lemmas.Int.{to_z-of_z}
use Rattle.qp_model.specs.problem.Parts.{design_of}
use Rattle.stay_check.specs.FirstRows.{first_row_count}
use Rattle.stay_check.specs.FaceForms.{faces_of}
use Rattle.stay_check.proofs.RowFacts.{added}
use Rattle.stay_check.proofs.FaceFacts.{weight_small}
use Rattle.stay_check.proofs.sums.of_rows.Goals as goal

pub overflow_mul-sum : goal.overflow_mul-sum
overflow_mul-sum c =
    let a : FitsSigned w128 c.at.result = search rules in
    let b : FitsSigned w128 c.coefficient.result = search rules in
    let lt : c.loop-r.r < first_row_count (design_of c.args.parts.now) = omega (arith, c.loop-r.invariant.end) in
    let weight : unsigned_abs c.at.result < 2 ^ 31 = rw c.at.ensures (weight_small (design_of c.args.parts.now) (faces_of c.args.faces.now) c.args.e c.loop-r.r c.requires.faces c.requires.face lt) in
    let t = added (2 ^ 97) (2 ^ 31) (2 ^ 66) (to_z w128 c.loop-r.sum-bits) c.at.result c.coefficient.result c.loop-r.r c.loop-r.invariant.small weight c.coefficient.ensures.small (omega arith) (omega (arith, c.loop-r.invariant.few)) in
    rw (to_z-of_z w128 _ a, to_z-of_z w128 _ b) t.product

pub overflow_add-sum : goal.overflow_add-sum
overflow_add-sum c =
    let a : FitsSigned w128 c.at.result = search rules in
    let b : FitsSigned w128 c.coefficient.result = search rules in
    let lt : c.loop-r.r < first_row_count (design_of c.args.parts.now) = omega (arith, c.loop-r.invariant.end) in
    let weight : unsigned_abs c.at.result < 2 ^ 31 = rw c.at.ensures (weight_small (design_of c.args.parts.now) (faces_of c.args.faces.now) c.args.e c.loop-r.r c.requires.faces c.requires.face lt) in
    let t = added (2 ^ 97) (2 ^ 31) (2 ^ 66) (to_z w128 c.loop-r.sum-bits) c.at.result c.coefficient.result c.loop-r.r c.loop-r.invariant.small weight c.coefficient.ensures.small (omega arith) (omega (arith, c.loop-r.invariant.few)) in
    rw (to_z-of_z w128 _ a, to_z-of_z w128 _ b, to_z-of_z w128 _ t.product) t.sum

pub loop-r-preserved : goal.loop-r-preserved
loop-r-preserved c =
    let a : FitsSigned w128 c.at.result = search rules in
    let b : FitsSigned w128 c.coefficient.result = search rules in
    let lt : c.loop-r.r < first_row_count (design_of c.args.parts.now) = omega (arith, c.loop-r.invariant.end) in
    let weight : unsigned_abs c.at.result < 2 ^ 31 = rw c.at.ensures (weight_small (design_of c.args.parts.now) (faces_of c.args.faces.now) c.args.e c.loop-r.r c.requires.faces c.requires.face lt) in
    let t = added (2 ^ 97) (2 ^ 31) (2 ^ 66) (to_z w128 c.loop-r.sum-bits) c.at.result c.coefficient.result c.loop-r.r c.loop-r.invariant.small weight c.coefficient.ensures.small (omega arith) (omega (arith, c.loop-r.invariant.few)) in
    record {
      end = c.loop-r.invariant.end;
      few = c.loop-r.invariant.few;
      sum = rw (to_z-of_z w128 _ a, to_z-of_z w128 _ b, to_z-of_z w128 _ t.product, to_z-of_z w128 _ t.sum, c.at.ensures, c.coefficient.ensures.value, c.loop-r.invariant.sum, add-one) refl;
      small = rw (to_z-of_z w128 _ a, to_z-of_z w128 _ b, to_z-of_z w128 _ t.product, to_z-of_z w128 _ t.sum) t.small;
    }
