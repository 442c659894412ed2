use Rattle.std.proofs.Common.{◌^◌, ◌%◌, ◌==◌, ◌*ℤ◌, rules, arith, refl, FitsSigned}
use Rattle.std.specs.Int.{w128}
use Rattle.std.proofs.lemmas.Int.{to_z-of_z, fits_signed_from_abs}
use Rattle.qp_model.specs.problem.Parts.{design_of}
use Rattle.stay_check.specs.FaceForms.{faces_of}
use Rattle.stay_check.proofs.RowFacts.{product_small}
use Rattle.stay_check.proofs.FaceFacts.{factor_size}
use Rattle.stay_check.proofs.SumFacts.{towards_small, factor_is}
use Rattle.stay_check.proofs.sums.of_coordinate.Goals as goal

pub overflow_mul-index : goal.overflow_mul-index
overflow_mul-index c =
    let k : FitsSigned w128 c.index.result.now = search rules in
    let a : FitsSigned w128 c.plant_at.result = search rules in
    let f = factor_size (design_of c.args.parts.now) (faces_of c.args.faces.now) c.args.e c.index.result.now c.requires.faces c.requires.face c.index.ensures in
    let small = product_small c.index.result.now c.plant_at.result (2 ^ 31) (2 ^ 31) f.1 c.plant_at.ensures.small in
    rw (to_z-of_z w128 _ k, to_z-of_z w128 _ a) (fits_signed_from_abs w128 _ (omega (arith, small)))

pub towards-requires : goal.towards-requires
towards-requires c =
    let k : FitsSigned w128 c.index.result.now = search rules in
    let a : FitsSigned w128 c.plant_at.result = search rules in
    let f = factor_size (design_of c.args.parts.now) (faces_of c.args.faces.now) c.args.e c.index.result.now c.requires.faces c.requires.face c.index.ensures in
    let small = product_small c.index.result.now c.plant_at.result (2 ^ 31) (2 ^ 31) f.1 c.plant_at.ensures.small in
    let p : FitsSigned w128 (c.index.result.now *ℤ c.plant_at.result) = fits_signed_from_abs w128 _ (omega (arith, small)) in
    rw (to_z-of_z w128 _ k, to_z-of_z w128 _ a, to_z-of_z w128 _ p) (omega (arith, small))

pub returns-clause-value : goal.returns-clause-value
returns-clause-value c =
    let k : FitsSigned w128 c.index.result.now = search rules in
    let a : FitsSigned w128 c.plant_at.result = search rules in
    let f = factor_size (design_of c.args.parts.now) (faces_of c.args.faces.now) c.args.e c.index.result.now c.requires.faces c.requires.face c.index.ensures in
    let small = product_small c.index.result.now c.plant_at.result (2 ^ 31) (2 ^ 31) f.1 c.plant_at.ensures.small in
    let p : FitsSigned w128 (c.index.result.now *ℤ c.plant_at.result) = fits_signed_from_abs w128 _ (omega (arith, small)) in
    let is = factor_is (design_of c.args.parts.now) (faces_of c.args.faces.now) c.args.e c.index.result.now c.requires.faces c.requires.face c.index.ensures in
    let t : FitsSigned w128 c.towards.result = search rules in
    rw (to_z-of_z w128 _ t, c.towards.ensures, to_z-of_z w128 _ k, to_z-of_z w128 _ a, to_z-of_z w128 _ p, is, c.plant_at.ensures.value) refl

pub returns-clause-small : goal.returns-clause-small
returns-clause-small c =
    let k : FitsSigned w128 c.index.result.now = search rules in
    let a : FitsSigned w128 c.plant_at.result = search rules in
    let f = factor_size (design_of c.args.parts.now) (faces_of c.args.faces.now) c.args.e c.index.result.now c.requires.faces c.requires.face c.index.ensures in
    let small = product_small c.index.result.now c.plant_at.result (2 ^ 31) (2 ^ 31) f.1 c.plant_at.ensures.small in
    let p : FitsSigned w128 (c.index.result.now *ℤ c.plant_at.result) = fits_signed_from_abs w128 _ (omega (arith, small)) in
    let t : FitsSigned w128 c.towards.result = search rules in
    let is = rw (to_z-of_z w128 _ k, to_z-of_z w128 _ a, to_z-of_z w128 _ p) at c.towards.ensures in
    rw (to_z-of_z w128 _ t) (towards_small (c.args.e % 2 == 0) (c.index.result.now *ℤ c.plant_at.result) c.towards.result (2 ^ 62) is (omega (arith, small)))
