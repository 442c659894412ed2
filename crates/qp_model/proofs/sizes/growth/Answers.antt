use Rattle.std.proofs.Common.{◌≡◌, ◌+◌, max, unsigned_abs, arith, rules, refl, ◌∙◌, ap, FitsSigned}
use Rattle.std.specs.Int.{w128}
use Rattle.std.proofs.lemmas.Int.{to_z-of_z}
use Rattle.integer_algebra.specs.Sizes.{size}
use Rattle.integer_algebra.specs.Sums.{at}
use Rattle.mat_int.specs.Matrix.{row_of}
use Rattle.qp_model.specs.problem.Parts.{design_of}
use Rattle.qp_model.specs.form.Quantities.{plant_width}
use Rattle.qp_model.proofs.SizeFacts.{greatest_more, numerator_row, plant_sum}
use Rattle.qp_model.proofs.VersionLaws.{design_states_le}
use Rattle.qp_model.proofs.sizes.growth.Goals as goal

pub loop-i-preserved : goal.loop-i-preserved
loop-i-preserved c =
    let parts = c.args.parts.now in
    let sum : c.absolute_sum.result + c.absolute_sum-in-loop-i.result ≡ plant_width (design_of parts) c.loop-i.i =
    plant_sum parts.states parts.inputs _ _ c.row.result.now c.row-in-loop-i.result.now (c.row.ensures.len ∙ c.requires.a.cols) (c.row-in-loop-i.ensures.len ∙ c.requires.b.cols)
    c.absolute_sum.ensures.sum c.absolute_sum-in-loop-i.ensures.sum ∙
    ap (λ xs. size parts.states (at xs) + size parts.inputs (at c.row-in-loop-i.result.now)) c.row.ensures.value ∙
    ap (λ xs. size parts.states (at (row_of parts.a c.loop-i.i)) + size parts.inputs (at xs)) c.row-in-loop-i.ensures.value in
    let most : c.max-most.result ≡ max c.loop-i.most (c.absolute_sum.result + c.absolute_sum-in-loop-i.result) = c.max-most.ensures in
    omega (arith, greatest_more c.loop-i.i (plant_width (design_of parts)), sum, c.loop-i.invariant, most)

pub loop-i-init : goal.loop-i-init
loop-i-init c =
    let fits : FitsSigned w128 c.args.parts.now.plant_den = search rules in
    omega (arith, c.unsigned_abs-most.ensures.value ∙ ap unsigned_abs (to_z-of_z w128 _ fits))

pub absolute_sum-requires-clause-few : goal.absolute_sum-requires-clause-few
absolute_sum-requires-clause-few c = omega (arith, c.row.ensures.len, c.requires.a.cols, design_states_le c.args.parts.now c.requires)

pub absolute_sum-requires-in-loop-i-clause-few : goal.absolute_sum-requires-in-loop-i-clause-few
absolute_sum-requires-in-loop-i-clause-few c = omega (arith, c.row-in-loop-i.ensures.len, c.requires.b.cols, c.requires.inputs.1)

pub absolute_sum-requires-clause-numerators : goal.absolute_sum-requires-clause-numerators
absolute_sum-requires-clause-numerators c = numerator_row c.args.parts.now.a c.loop-i.i _ c.requires.a.numbers (omega (arith, c.loop-i-test.true, c.requires.a.rows.0)) c.row.ensures.value

pub absolute_sum-requires-in-loop-i-clause-numerators : goal.absolute_sum-requires-in-loop-i-clause-numerators
absolute_sum-requires-in-loop-i-clause-numerators c =
    numerator_row c.args.parts.now.b c.loop-i.i _ c.requires.b.numbers (omega (arith, c.loop-i-test.true, c.requires.b.rows.0)) c.row-in-loop-i.ensures.value

pub overflow_add-absolute_sum : goal.overflow_add-absolute_sum
overflow_add-absolute_sum c =
    record {
      fits = omega (
        arith,
        c.absolute_sum.ensures.small,
        c.absolute_sum-in-loop-i.ensures.small,
        c.row.ensures.len,
        c.row-in-loop-i.ensures.len,
        c.requires.a.cols,
        c.requires.b.cols,
        c.requires.inputs.1,
        design_states_le c.args.parts.now c.requires,
      );
    }

pub returns : goal.returns
returns c =
    let all : c.loop-i.i ≡ c.args.parts.now.states = omega arith in
    c.loop-i.invariant ∙ rw all refl
