use Rattle.std.proofs.Common.{◌≡◌, ◌<◌, ◌*◌, ◌^◌, ℕ, rules, arith, refl, FitsSigned, unsigned_abs}
use Rattle.std.specs.Int.{w128}
use Rattle.std.proofs.lemmas.Int.{to_z-of_z}
use Rattle.integer_algebra.proofs.SizeLaws.{amount_more}
use Rattle.mat_int.specs.Matrix.{entry_of}
use Rattle.qp_model.specs.problem.Parts.{design_of}
use Rattle.stay_check.specs.FirstRows.{first_row, first_row_count}
use Rattle.stay_check.specs.FaceForms.{faces_of}
use Rattle.stay_check.specs.Columns.{coefficient}
use Rattle.stay_check.proofs.FaceFacts.{weight_small, added_size}
use Rattle.stay_check.proofs.size.weighted_rows_size.Goals as goal

pub overflow_mul-sum : goal.overflow_mul-sum
overflow_mul-sum c =
    let a : FitsSigned w128 c.at.result = search rules in
    let b : FitsSigned w128 c.coefficient.result = search rules in
    let lt : c.loop-r.r < first_row_count (design_of c.args.parts.now) = omega (arith, c.loop-r.invariant.end) in
    let weight : c.unsigned_abs-weight.result < 2 ^ 31 = rw (c.unsigned_abs-weight.ensures.value, to_z-of_z w128 _ a, c.at.ensures)
    (weight_small (design_of c.args.parts.now) (faces_of c.args.faces.now) c.args.e c.loop-r.r c.requires.faces c.requires.face lt) in
    let own : c.unsigned_abs.result < 2 ^ 66 = rw (c.unsigned_abs.ensures.value, to_z-of_z w128 _ b) c.coefficient.ensures.small in
    let t = added_size (2 ^ 97) (2 ^ 31) (2 ^ 66) c.loop-r.sum c.unsigned_abs-weight.result c.unsigned_abs.result c.loop-r.r c.loop-r.invariant.small weight own (omega arith) in
    record { fits = omega (arith, t.0) }

pub overflow_add-sum : goal.overflow_add-sum
overflow_add-sum c =
    let a : FitsSigned w128 c.at.result = search rules in
    let b : FitsSigned w128 c.coefficient.result = search rules in
    let lt : c.loop-r.r < first_row_count (design_of c.args.parts.now) = omega (arith, c.loop-r.invariant.end) in
    let weight : c.unsigned_abs-weight.result < 2 ^ 31 = rw (c.unsigned_abs-weight.ensures.value, to_z-of_z w128 _ a, c.at.ensures)
    (weight_small (design_of c.args.parts.now) (faces_of c.args.faces.now) c.args.e c.loop-r.r c.requires.faces c.requires.face lt) in
    let own : c.unsigned_abs.result < 2 ^ 66 = rw (c.unsigned_abs.ensures.value, to_z-of_z w128 _ b) c.coefficient.ensures.small in
    let t = added_size (2 ^ 97) (2 ^ 31) (2 ^ 66) c.loop-r.sum c.unsigned_abs-weight.result c.unsigned_abs.result c.loop-r.r c.loop-r.invariant.small weight own (omega arith) in
    record { fits = omega (arith, t.1, c.loop-r.invariant.few) }

pub loop-r-preserved : goal.loop-r-preserved
loop-r-preserved c =
    let a : FitsSigned w128 c.at.result = search rules in
    let b : FitsSigned w128 c.coefficient.result = search rules in
    let lt : c.loop-r.r < first_row_count (design_of c.args.parts.now) = omega (arith, c.loop-r.invariant.end) in
    let weight : c.unsigned_abs-weight.result < 2 ^ 31 = rw (c.unsigned_abs-weight.ensures.value, to_z-of_z w128 _ a, c.at.ensures)
    (weight_small (design_of c.args.parts.now) (faces_of c.args.faces.now) c.args.e c.loop-r.r c.requires.faces c.requires.face lt) in
    let own : c.unsigned_abs.result < 2 ^ 66 = rw (c.unsigned_abs.ensures.value, to_z-of_z w128 _ b) c.coefficient.ensures.small in
    let t = added_size (2 ^ 97) (2 ^ 31) (2 ^ 66) c.loop-r.sum c.unsigned_abs-weight.result c.unsigned_abs.result c.loop-r.r c.loop-r.invariant.small weight own (omega arith) in
    let term : ℕ → ℕ = λ r. unsigned_abs (entry_of c.args.faces.now.weights c.args.e r) * unsigned_abs (coefficient (first_row (design_of c.args.parts.now) r) c.args.column) in
    let is : c.unsigned_abs-weight.result * c.unsigned_abs.result ≡ term c.loop-r.r =
    rw (c.unsigned_abs-weight.ensures.value, to_z-of_z w128 _ a, c.at.ensures, c.unsigned_abs.ensures.value, to_z-of_z w128 _ b, c.coefficient.ensures.value) refl in
    record {
      end = c.loop-r.invariant.end;
      few = c.loop-r.invariant.few;
      sum = rw (amount_more c.loop-r.r term, c.loop-r.invariant.sum, is) refl;
      small = t.1;
    }

pub returns-clause-value : goal.returns-clause-value
returns-clause-value c =
    let whole : c.loop-r.r ≡ first_row_count (design_of c.args.parts.now) = omega (arith, c.loop-r.invariant.end) in
    rw (← whole) c.loop-r.invariant.sum
