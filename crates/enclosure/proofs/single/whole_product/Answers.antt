use Rattle.std.proofs.Common.{◌*ℤ◌, rules, arith, refl, ◌∙◌, FitsSigned}
use Rattle.std.specs.Int.{w128}
use Rattle.std.proofs.lemmas.Int.{to_z-of_z, to_z_pos, fits_signed_from_abs}
use Rattle.enclosure.proofs.RoomLaws.{same_pair, reach_mul_is, product_small, product_rest, limit_is, refused}
use Rattle.enclosure.proofs.single.whole_product.Goals as goal

pub returns-in_err-most-clause-room : goal.returns-in_err-most-clause-room
returns-in_err-most-clause-room c =
    refused c.from_residual.result _ _ c.from_residual.ensures
    (reach_mul_is c.args.a.mid c.args.a.rad c.args.b.mid c.args.b.rad c.args.a.nonnegative c.args.b.nonnegative)
    (rw (c.magnitude.ensures, c.magnitude-2.ensures) at c.in_err-most.ensures)

pub overflow_mul-mid : goal.overflow_mul-mid
overflow_mul-mid c =
    let f : FitsSigned w128 c.args.a.mid = search rules in
    let g : FitsSigned w128 c.args.b.mid = search rules in
    let small = product_small c.args.a.mid c.args.a.rad c.args.b.mid c.args.b.rad in
    let room = rw (c.magnitude.ensures, c.magnitude-2.ensures) at c.in_ok-most.ensures.0 in
    rw (to_z-of_z w128 _ f, to_z-of_z w128 _ g) (fits_signed_from_abs w128 _ (omega (arith, small, room)))

pub overflow_sub-result : goal.overflow_sub-result
overflow_sub-result c =
    let f : FitsSigned w128 c.args.a.mid = search rules in
    let g : FitsSigned w128 c.args.b.mid = search rules in
    let small = product_small c.args.a.mid c.args.a.rad c.args.b.mid c.args.b.rad in
    let room = rw (c.magnitude.ensures, c.magnitude-2.ensures) at c.in_ok-most.ensures.0 in
    let most = rw (c.magnitude.ensures, c.magnitude-2.ensures) at c.in_ok-most.ensures.1 in
    let fits : FitsSigned w128 (c.args.a.mid *ℤ c.args.b.mid) = fits_signed_from_abs w128 _ (omega (arith, small, room)) in
    let mid = rw (to_z-of_z w128 _ f, to_z-of_z w128 _ g, to_z-of_z w128 _ fits) at c.unsigned_abs.ensures.value in
    omega (arith, small, most, mid)

pub returns-clause-value : goal.returns-clause-value
returns-clause-value c =
    let f : FitsSigned w128 c.args.a.mid = search rules in
    let g : FitsSigned w128 c.args.b.mid = search rules in
    let small = product_small c.args.a.mid c.args.a.rad c.args.b.mid c.args.b.rad in
    let room = rw (c.magnitude.ensures, c.magnitude-2.ensures) at c.in_ok-most.ensures.0 in
    let most = rw (c.magnitude.ensures, c.magnitude-2.ensures) at c.in_ok-most.ensures.1 in
    let fits : FitsSigned w128 (c.args.a.mid *ℤ c.args.b.mid) = fits_signed_from_abs w128 _ (omega (arith, small, room)) in
    let mid = rw (to_z-of_z w128 _ f, to_z-of_z w128 _ g, to_z-of_z w128 _ fits) at c.unsigned_abs.ensures.value in
    same_pair (rw (to_z-of_z w128 _ f, to_z-of_z w128 _ g, to_z-of_z w128 _ fits) refl)
    (rw (mid, most) (to_z_pos w128 _ (omega (arith, room)) ∙ product_rest c.args.a.mid c.args.a.rad c.args.b.mid c.args.b.rad c.args.a.nonnegative c.args.b.nonnegative))

pub returns-clause-room : goal.returns-clause-room
returns-clause-room c =
    let room = rw (c.magnitude.ensures, c.magnitude-2.ensures) at c.in_ok-most.ensures.0 in
    (λ h. (limit_is _ _ (reach_mul_is c.args.a.mid c.args.a.rad c.args.b.mid c.args.b.rad c.args.a.nonnegative c.args.b.nonnegative)).0 room, λ h. refl)
