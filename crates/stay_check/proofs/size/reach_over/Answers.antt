use Rattle.std.proofs.Common.{◌*◌, ◌^◌, ◌≤◌, rules, arith, refl, FitsSigned}
use Rattle.std.specs.Int.{w128}
use Rattle.std.proofs.lemmas.Int.{to_z-of_z}
use Rattle.qp_model.specs.problem.Parts.{design_of}
use Rattle.stay_check.specs.FaceForms.{faces_of}
use Rattle.stay_check.proofs.FaceFacts.{factor_at, factor_size, denominator_small, over_size}
use Rattle.stay_check.proofs.size.reach_over.Goals as goal

sizes : (c : goal.After-unsigned_abs-2) → (1 ≤ c.unsigned_abs.result * c.unsigned_abs-2.result * 2 ^ 40) × (c.unsigned_abs.result * c.unsigned_abs-2.result * 2 ^ 40 ≤ 2 ^ 91)
sizes c =
    let k : FitsSigned w128 c.index.result.now = search rules in
    let a : FitsSigned w128 c.args.parts.now.plant_den = search rules in
    let f = factor_size (design_of c.args.parts.now) (faces_of c.args.faces.now) c.args.e c.index.result.now c.requires.faces c.requires.face c.index.ensures in
    let d = denominator_small c.args.parts.now.plant_den c.requires.design.plant_den in
    rw (c.unsigned_abs.ensures.value, to_z-of_z w128 _ k, c.unsigned_abs-2.ensures.value, to_z-of_z w128 _ a) (over_size _ _ f.0 f.1 d.0 d.1)

pub overflow_mul-result : goal.overflow_mul-result
overflow_mul-result c = record { fits = omega (arith, (sizes c).1) }

pub overflow_mul-result-2 : goal.overflow_mul-result-2
overflow_mul-result-2 c = record { fits = omega (arith, (sizes c).1) }

pub returns-clause-value : goal.returns-clause-value
returns-clause-value c =
    let k : FitsSigned w128 c.index.result.now = search rules in
    let a : FitsSigned w128 c.args.parts.now.plant_den = search rules in
    let read = factor_at (design_of c.args.parts.now) (faces_of c.args.faces.now) c.args.e c.index.result.now c.requires.faces c.requires.face c.index.ensures in
    rw (c.unsigned_abs.ensures.value, to_z-of_z w128 _ k, read, c.unsigned_abs-2.ensures.value, to_z-of_z w128 _ a) refl

pub returns-clause-some : goal.returns-clause-some
returns-clause-some c = (sizes c).0

pub returns-clause-small : goal.returns-clause-small
returns-clause-small c = (sizes c).1
