use Rattle.std.proofs.Common.{rules, ◌+◌, unsigned_abs}
use Rattle.std.specs.Int.{w128}
use Rattle.std.proofs.lemmas.Int.{to_z-of_z}
use Rattle.enclosure.proofs.RoomLaws.{same_pair}
use Rattle.hessian_check.proofs.RowSumLaws.{AreWords, mid_fits, mid_is, product_is, rad_fits, rad_is, rad_nonneg, reach_fits, rest_fits, rest_inside, product_fits}
use Rattle.hessian_check.proofs.sums.plus_product.Goals as goal

pub overflow_sub-rad : goal.overflow_sub-rad
overflow_sub-rad c =
    let words : AreWords c.args.sum c.args.a c.args.b = record { sum_mid = search rules; sum_rad = search rules; a_mid = search rules; b_mid = search rules } in
    rest_inside c.args.sum c.args.a c.args.b words c.requires _ _ _ c.unsigned_abs.ensures.value c.magnitude.ensures c.magnitude-2.ensures

pub overflow_add-result : goal.overflow_add-result
overflow_add-result c =
    let words : AreWords c.args.sum c.args.a c.args.b = record { sum_mid = search rules; sum_rad = search rules; a_mid = search rules; b_mid = search rules } in
    rw (to_z-of_z w128 _ words.sum_mid, product_is c.args.sum c.args.a c.args.b words c.requires) (mid_fits c.args.sum c.args.a c.args.b words c.requires)

pub invariant_of-result : goal.invariant_of-result
invariant_of-result c =
    let words : AreWords c.args.sum c.args.a c.args.b = record { sum_mid = search rules; sum_rad = search rules; a_mid = search rules; b_mid = search rules } in
    record { nonnegative = rad_nonneg c.args.sum c.args.a c.args.b words c.requires _ _ _ c.unsigned_abs.ensures.value c.magnitude.ensures c.magnitude-2.ensures }

pub returns : goal.returns
returns c =
    let words : AreWords c.args.sum c.args.a c.args.b = record { sum_mid = search rules; sum_rad = search rules; a_mid = search rules; b_mid = search rules } in
    same_pair (mid_is c.args.sum c.args.a c.args.b words c.requires _ _ _ c.unsigned_abs.ensures.value c.magnitude.ensures c.magnitude-2.ensures)
    (rad_is c.args.sum c.args.a c.args.b words c.requires _ _ _ c.unsigned_abs.ensures.value c.magnitude.ensures c.magnitude-2.ensures)

pub overflow_mul-rad : goal.overflow_mul-rad
overflow_mul-rad c = reach_fits (unsigned_abs c.args.sum.mid + unsigned_abs c.args.sum.rad) c.magnitude.ensures c.magnitude-2.ensures c.requires

pub overflow_cast-rad : goal.overflow_cast-rad
overflow_cast-rad c = rest_fits (unsigned_abs c.args.sum.mid + unsigned_abs c.args.sum.rad) c.unsigned_abs.result c.magnitude.ensures c.magnitude-2.ensures c.requires

pub overflow_add-result-2 : goal.overflow_add-result-2
overflow_add-result-2 c =
    let words : AreWords c.args.sum c.args.a c.args.b = record { sum_mid = search rules; sum_rad = search rules; a_mid = search rules; b_mid = search rules } in
    rad_fits c.args.sum c.args.a c.args.b words c.requires _ _ _ c.unsigned_abs.ensures.value c.magnitude.ensures c.magnitude-2.ensures

pub overflow_mul-mid : goal.overflow_mul-mid
overflow_mul-mid c =
    let words : AreWords c.args.sum c.args.a c.args.b = record { sum_mid = search rules; sum_rad = search rules; a_mid = search rules; b_mid = search rules } in
    rw (to_z-of_z w128 _ words.a_mid, to_z-of_z w128 _ words.b_mid) (product_fits c.args.sum c.args.a c.args.b words c.requires)
