use Rattle.std.proofs.Common.{ℤ, FitsSigned, arith}
use Rattle.std.specs.Int.{w128}
use Rattle.std.proofs.lemmas.Int.{ints}
use Rattle.qp_model.specs.problem.Range.{IsDenominator, IsPositive}
use Rattle.scaled_condense.proofs.CostFacts.{own_fits, scale_fits, brought_fits, brought_value, brought_small}
use Rattle.scaled_condense.proofs.hessian.brought_weight.Goals as goal

positive_fits : (z : ℤ) → IsPositive z → FitsSigned w128 z
positive_fits z h = omega (arith, ints, h.low, h.high)

denominator_fits : (z : ℤ) → IsDenominator z → FitsSigned w128 z
denominator_fits z h = omega (arith, ints, h.low, h.high)

pub overflow_cast-result : goal.overflow_cast-result
overflow_cast-result c =
    let p = c.args.parts.now in
    scale_fits c.args.scale c.args.weight p.row_den (positive_fits _ c.requires.weight) (denominator_fits _ c.requires.design.row_den) c.requires.weight c.requires.design.row_den c.requires.room

pub overflow_mul-result-2 : goal.overflow_mul-result-2
overflow_mul-result-2 c =
    let p = c.args.parts.now in
    own_fits c.args.scale c.args.weight p.row_den (positive_fits _ c.requires.weight) (denominator_fits _ c.requires.design.row_den) c.requires.weight c.requires.design.row_den c.requires.room

pub overflow_mul-result-3 : goal.overflow_mul-result-3
overflow_mul-result-3 c =
    let p = c.args.parts.now in
    brought_fits c.args.scale c.args.weight p.row_den (positive_fits _ c.requires.weight) (denominator_fits _ c.requires.design.row_den) c.requires.weight c.requires.design.row_den c.requires.room

pub returns-clause-value : goal.returns-clause-value
returns-clause-value c =
    let p = c.args.parts.now in
    brought_value c.args.scale c.args.weight p.row_den (positive_fits _ c.requires.weight) (denominator_fits _ c.requires.design.row_den) c.requires.weight c.requires.design.row_den c.requires.room

pub returns-clause-small : goal.returns-clause-small
returns-clause-small c =
    let p = c.args.parts.now in
    brought_small c.args.scale c.args.weight p.row_den (positive_fits _ c.requires.weight) (denominator_fits _ c.requires.design.row_den) c.requires.weight c.requires.design.row_den c.requires.room
