use Rattle.std.proofs.Common.{◌^◌, ◌-ℤ◌, ◌*ℤ◌, pos, rules, arith, refl, FitsSigned}
use Rattle.std.specs.Int.{w128}
use Rattle.std.proofs.lemmas.Int.{ints, to_z-of_z, fits_signed_from_abs}
use Rattle.enclosure.proofs.RoomLaws.{limit_is, refused, test_room, test_is, test_is_far}
use Rattle.enclosure.proofs.single.contains.Goals as goal

pub returns-in_err-far-clause-room : goal.returns-in_err-far-clause-room
returns-in_err-far-clause-room c =
    let d = rw (to_z-of_z w128 _ c.ranges.den) at c.unsigned_abs.ensures.value in
    let far = rw (c.magnitude.ensures, d) at c.in_err-far.ensures in
    refused c.from_residual.result _ _ c.from_residual.ensures (test_is_far c.args.a.mid c.args.a.rad c.args.num c.args.den c.args.a.nonnegative c.requires)
    (λ h. far (omega (arith, h)))

pub returns-in_err-limited_product-clause-room : goal.returns-in_err-limited_product-clause-room
returns-in_err-limited_product-clause-room c =
    let n = rw (to_z-of_z w128 _ c.ranges.num) at c.unsigned_abs-2.ensures.value in
    let far = rw n at c.in_err-limited_product.ensures in
    refused c.from_residual-in_err-limited_product.result _ _ c.from_residual-in_err-limited_product.ensures
    (test_is_far c.args.a.mid c.args.a.rad c.args.num c.args.den c.args.a.nonnegative c.requires) (λ h. far (omega (arith, h)))

pub returns-in_err-limited_sum-clause-room : goal.returns-in_err-limited_sum-clause-room
returns-in_err-limited_sum-clause-room c =
    let n = rw (to_z-of_z w128 _ c.ranges.num) at c.unsigned_abs-2.ensures.value in
    let d = rw (to_z-of_z w128 _ c.ranges.den) at c.unsigned_abs.ensures.value in
    let far = rw (c.in_ok-limited_product.ensures.1, c.in_ok-far.ensures.1, c.magnitude.ensures, n, d) at c.in_err-limited_sum.ensures in
    refused c.from_residual-in_err-limited_sum.result _ _ c.from_residual-in_err-limited_sum.ensures
    (test_is_far c.args.a.mid c.args.a.rad c.args.num c.args.den c.args.a.nonnegative c.requires) far

pub overflow_mul-off : goal.overflow_mul-off
overflow_mul-off c =
    let f : FitsSigned w128 c.args.a.mid = search rules in
    let r : FitsSigned w128 c.args.a.rad = search rules in
    let n = rw (to_z-of_z w128 _ c.ranges.num) at c.unsigned_abs-2.ensures.value in
    let d = rw (to_z-of_z w128 _ c.ranges.den) at c.unsigned_abs.ensures.value in
    let all = rw (c.in_ok-limited_product.ensures.1, c.in_ok-far.ensures.1, c.magnitude.ensures, n, d) at c.in_ok-limited_sum.ensures.0 in
    let room = test_room c.args.a.mid c.args.a.rad c.args.num c.args.den c.args.a.nonnegative all in
    let scale = rw (to_z-of_z w128 _ c.ranges.num) at c.scaled.ensures in
    let mid : FitsSigned w128 (c.args.a.mid *ℤ c.args.den) = fits_signed_from_abs w128 _ (omega (arith, room.0)) in
    rw (to_z-of_z w128 _ f, to_z-of_z w128 _ c.ranges.den) mid

pub overflow_sub-off : goal.overflow_sub-off
overflow_sub-off c =
    let f : FitsSigned w128 c.args.a.mid = search rules in
    let r : FitsSigned w128 c.args.a.rad = search rules in
    let n = rw (to_z-of_z w128 _ c.ranges.num) at c.unsigned_abs-2.ensures.value in
    let d = rw (to_z-of_z w128 _ c.ranges.den) at c.unsigned_abs.ensures.value in
    let all = rw (c.in_ok-limited_product.ensures.1, c.in_ok-far.ensures.1, c.magnitude.ensures, n, d) at c.in_ok-limited_sum.ensures.0 in
    let room = test_room c.args.a.mid c.args.a.rad c.args.num c.args.den c.args.a.nonnegative all in
    let scale = rw (to_z-of_z w128 _ c.ranges.num) at c.scaled.ensures in
    let mid : FitsSigned w128 (c.args.a.mid *ℤ c.args.den) = fits_signed_from_abs w128 _ (omega (arith, room.0)) in
    let far : FitsSigned w128 c.scaled.result = search rules in
    rw (to_z-of_z w128 _ f, to_z-of_z w128 _ c.ranges.den, to_z-of_z w128 _ mid, to_z-of_z w128 _ far, scale) (fits_signed_from_abs w128 _ (omega (arith, room.2)))

pub abs-requires : goal.abs-requires
abs-requires c =
    let f : FitsSigned w128 c.args.a.mid = search rules in
    let r : FitsSigned w128 c.args.a.rad = search rules in
    let n = rw (to_z-of_z w128 _ c.ranges.num) at c.unsigned_abs-2.ensures.value in
    let d = rw (to_z-of_z w128 _ c.ranges.den) at c.unsigned_abs.ensures.value in
    let all = rw (c.in_ok-limited_product.ensures.1, c.in_ok-far.ensures.1, c.magnitude.ensures, n, d) at c.in_ok-limited_sum.ensures.0 in
    let room = test_room c.args.a.mid c.args.a.rad c.args.num c.args.den c.args.a.nonnegative all in
    let scale = rw (to_z-of_z w128 _ c.ranges.num) at c.scaled.ensures in
    let mid : FitsSigned w128 (c.args.a.mid *ℤ c.args.den) = fits_signed_from_abs w128 _ (omega (arith, room.0)) in
    let far : FitsSigned w128 c.scaled.result = search rules in
    let off : FitsSigned w128 (c.args.num *ℤ pos (2 ^ 40) -ℤ c.args.a.mid *ℤ c.args.den) = fits_signed_from_abs w128 _ (omega (arith, room.2)) in
    rw (to_z-of_z w128 _ f, to_z-of_z w128 _ c.ranges.den, to_z-of_z w128 _ mid, to_z-of_z w128 _ far, scale, to_z-of_z w128 _ off) (omega (arith, ints, room.2))

pub overflow_mul-result : goal.overflow_mul-result
overflow_mul-result c =
    let f : FitsSigned w128 c.args.a.mid = search rules in
    let r : FitsSigned w128 c.args.a.rad = search rules in
    let n = rw (to_z-of_z w128 _ c.ranges.num) at c.unsigned_abs-2.ensures.value in
    let d = rw (to_z-of_z w128 _ c.ranges.den) at c.unsigned_abs.ensures.value in
    let all = rw (c.in_ok-limited_product.ensures.1, c.in_ok-far.ensures.1, c.magnitude.ensures, n, d) at c.in_ok-limited_sum.ensures.0 in
    let room = test_room c.args.a.mid c.args.a.rad c.args.num c.args.den c.args.a.nonnegative all in
    let scale = rw (to_z-of_z w128 _ c.ranges.num) at c.scaled.ensures in
    let mid : FitsSigned w128 (c.args.a.mid *ℤ c.args.den) = fits_signed_from_abs w128 _ (omega (arith, room.0)) in
    rw (to_z-of_z w128 _ r, to_z-of_z w128 _ c.ranges.den) (fits_signed_from_abs w128 _ (omega (arith, room.1)))

pub returns-clause-value : goal.returns-clause-value
returns-clause-value c =
    let f : FitsSigned w128 c.args.a.mid = search rules in
    let r : FitsSigned w128 c.args.a.rad = search rules in
    let n = rw (to_z-of_z w128 _ c.ranges.num) at c.unsigned_abs-2.ensures.value in
    let d = rw (to_z-of_z w128 _ c.ranges.den) at c.unsigned_abs.ensures.value in
    let all = rw (c.in_ok-limited_product.ensures.1, c.in_ok-far.ensures.1, c.magnitude.ensures, n, d) at c.in_ok-limited_sum.ensures.0 in
    let room = test_room c.args.a.mid c.args.a.rad c.args.num c.args.den c.args.a.nonnegative all in
    let scale = rw (to_z-of_z w128 _ c.ranges.num) at c.scaled.ensures in
    let mid : FitsSigned w128 (c.args.a.mid *ℤ c.args.den) = fits_signed_from_abs w128 _ (omega (arith, room.0)) in
    let far : FitsSigned w128 c.scaled.result = search rules in
    let off : FitsSigned w128 (c.args.num *ℤ pos (2 ^ 40) -ℤ c.args.a.mid *ℤ c.args.den) = fits_signed_from_abs w128 _ (omega (arith, room.2)) in
    let rad : FitsSigned w128 (c.args.a.rad *ℤ c.args.den) = fits_signed_from_abs w128 _ (omega (arith, room.1)) in
    let size : FitsSigned w128 c.abs.result = search rules in
    let is = rw (to_z-of_z w128 _ f, to_z-of_z w128 _ c.ranges.den, to_z-of_z w128 _ mid, to_z-of_z w128 _ far, scale, to_z-of_z w128 _ off) at c.abs.ensures.value in
    rw (to_z-of_z w128 _ r, to_z-of_z w128 _ c.ranges.den, to_z-of_z w128 _ size, to_z-of_z w128 _ rad, is)
    (test_is c.args.a.mid c.args.a.rad c.args.num c.args.den)

pub returns-clause-room : goal.returns-clause-room
returns-clause-room c =
    let n = rw (to_z-of_z w128 _ c.ranges.num) at c.unsigned_abs-2.ensures.value in
    let d = rw (to_z-of_z w128 _ c.ranges.den) at c.unsigned_abs.ensures.value in
    let all = rw (c.in_ok-limited_product.ensures.1, c.in_ok-far.ensures.1, c.magnitude.ensures, n, d) at c.in_ok-limited_sum.ensures.0 in
    (λ h. (limit_is _ _ (test_is_far c.args.a.mid c.args.a.rad c.args.num c.args.den c.args.a.nonnegative c.requires)).0 all, λ h. refl)
