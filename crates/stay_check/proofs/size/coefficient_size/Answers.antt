use Rattle.std.proofs.Common.{◌<◌, ◌^◌, rules, arith, refl, FitsSigned}
use Rattle.std.specs.Int.{w128}
use Rattle.std.proofs.lemmas.Int.{to_z-of_z}
use Rattle.std.proofs.lemmas.Nat.{mul-lt}
use Rattle.qp_model.specs.problem.Parts.{design_of}
use Rattle.stay_check.specs.FaceForms.{faces_of}
use Rattle.stay_check.proofs.FaceFacts.{factor_at, factor_size}
use Rattle.stay_check.proofs.size.coefficient_size.Goals as goal

pub overflow_add-result : goal.overflow_add-result
overflow_add-result c =
    let b : FitsSigned w128 c.plant_at.result = search rules in
    let own : c.unsigned_abs-own.result < 2 ^ 31 = rw (c.unsigned_abs-own.ensures.value, to_z-of_z w128 _ b) c.plant_at.ensures.small in
    let k : FitsSigned w128 c.index.result.now = search rules in
    let factor : c.unsigned_abs.result < 2 ^ 31 = rw (c.unsigned_abs.ensures.value, to_z-of_z w128 _ k)
    (factor_size (design_of c.args.parts.now) (faces_of c.args.faces.now) c.args.e c.index.result.now c.requires.faces c.requires.face c.index.ensures).1 in
    record { fits = omega (arith, mul-lt c.unsigned_abs.result c.unsigned_abs-own.result (2 ^ 31) (2 ^ 31) factor own, c.weighted_rows_size.ensures.small) }

pub returns-clause-small : goal.returns-clause-small
returns-clause-small c =
    let b : FitsSigned w128 c.plant_at.result = search rules in
    let own : c.unsigned_abs-own.result < 2 ^ 31 = rw (c.unsigned_abs-own.ensures.value, to_z-of_z w128 _ b) c.plant_at.ensures.small in
    let k : FitsSigned w128 c.index.result.now = search rules in
    let factor : c.unsigned_abs.result < 2 ^ 31 = rw (c.unsigned_abs.ensures.value, to_z-of_z w128 _ k)
    (factor_size (design_of c.args.parts.now) (faces_of c.args.faces.now) c.args.e c.index.result.now c.requires.faces c.requires.face c.index.ensures).1 in
    omega (arith, mul-lt c.unsigned_abs.result c.unsigned_abs-own.result (2 ^ 31) (2 ^ 31) factor own, c.weighted_rows_size.ensures.small)

pub overflow_mul-result : goal.overflow_mul-result
overflow_mul-result c =
    let b : FitsSigned w128 c.plant_at.result = search rules in
    let own : c.unsigned_abs-own.result < 2 ^ 31 = rw (c.unsigned_abs-own.ensures.value, to_z-of_z w128 _ b) c.plant_at.ensures.small in
    let k : FitsSigned w128 c.index.result.now = search rules in
    let factor : c.unsigned_abs.result < 2 ^ 31 = rw (c.unsigned_abs.ensures.value, to_z-of_z w128 _ k)
    (factor_size (design_of c.args.parts.now) (faces_of c.args.faces.now) c.args.e c.index.result.now c.requires.faces c.requires.face c.index.ensures).1 in
    record { fits = omega (arith, mul-lt c.unsigned_abs.result c.unsigned_abs-own.result (2 ^ 31) (2 ^ 31) factor own) }

pub returns-clause-value : goal.returns-clause-value
returns-clause-value c =
    let b : FitsSigned w128 c.plant_at.result = search rules in
    let k : FitsSigned w128 c.index.result.now = search rules in
    let read = factor_at (design_of c.args.parts.now) (faces_of c.args.faces.now) c.args.e c.index.result.now c.requires.faces c.requires.face c.index.ensures in
    rw (c.unsigned_abs.ensures.value, to_z-of_z w128 _ k, read, c.unsigned_abs-own.ensures.value, to_z-of_z w128 _ b, c.plant_at.ensures.value, c.weighted_rows_size.ensures.value) refl
