use Rattle.std.proofs.Common.{rules, arith, FitsSigned}
use Rattle.std.specs.Int.{w128}
use Rattle.std.proofs.lemmas.Int.{to_z-of_z}
use Rattle.stay_check.proofs.RowFacts.{at_start, scaled_small}
use Rattle.stay_check.proofs.rows.coefficient.Goals as goal

pub overflow_mul-result : goal.overflow_mul-result
overflow_mul-result c =
    let a : FitsSigned w128 c.args.parts.now.plant_den = search rules in
    let b : FitsSigned w128 c.stage_limit_at.result = search rules in
    let t = scaled_small c.args.parts.now.plant_den c.stage_limit_at.result c.requires.design.plant_den c.stage_limit_at.ensures.small in
    rw (to_z-of_z w128 _ a, to_z-of_z w128 _ b) t.fits

pub returns-then-r-count-clause-value : goal.returns-then-r-count-clause-value
returns-then-r-count-clause-value c =
    let a : FitsSigned w128 c.args.parts.now.plant_den = search rules in
    let b : FitsSigned w128 c.stage_limit_at.result = search rules in
    let t = scaled_small c.args.parts.now.plant_den c.stage_limit_at.result c.requires.design.plant_den c.stage_limit_at.ensures.small in
    rw (to_z-of_z w128 _ a, to_z-of_z w128 _ b, to_z-of_z w128 _ t.fits)
    (at_start c.args.parts.now c.args.r c.args.column c.stage_limit_at.result c.requires.design (omega arith) c.stage_limit_at.ensures.value)

pub returns-then-r-count-clause-small : goal.returns-then-r-count-clause-small
returns-then-r-count-clause-small c =
    let a : FitsSigned w128 c.args.parts.now.plant_den = search rules in
    let b : FitsSigned w128 c.stage_limit_at.result = search rules in
    let t = scaled_small c.args.parts.now.plant_den c.stage_limit_at.result c.requires.design.plant_den c.stage_limit_at.ensures.small in
    rw (to_z-of_z w128 _ a, to_z-of_z w128 _ b, to_z-of_z w128 _ t.fits) t.small
