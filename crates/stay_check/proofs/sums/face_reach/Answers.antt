use Rattle.std.proofs.Common.{◌≡◌, ◌*◌, ◌^◌, pos, ◌*ℤ◌, ◌+ℤ◌, rules, arith, refl, FitsSigned, to_z}
use Rattle.std.specs.Int.{w128}
use Rattle.std.proofs.lemmas.Int.{to_z-of_z, fits_signed_from_abs}
use Rattle.integer_algebra.specs.Sums.{at}
use Rattle.qp_model.specs.problem.Parts.{design_of}
use Rattle.stay_check.specs.FaceForms.{faces_of, face_of, greatest_rest, left_by_rows}
use Rattle.stay_check.proofs.SumFacts.{reach_room, left_room, cast}
use Rattle.stay_check.proofs.sums.face_reach.Goals as goal

pub overflow_mul-own : goal.overflow_mul-own
overflow_mul-own c =
    let d = design_of c.args.parts.now in
    let f = face_of (faces_of c.args.faces.now) c.args.e in
    let t = reach_room d (at c.args.excess.now) f c.requires.narrow in
    let g : FitsSigned w128 c.greatest_rest.result = search rules in
    let own : FitsSigned w128 (pos (2 ^ 40) *ℤ greatest_rest d f) = fits_signed_from_abs w128 _ (omega (arith, t.own)) in
    rw (to_z-of_z w128 _ g, c.greatest_rest.ensures) own

pub left_by_rows-requires-clause-narrow : goal.left_by_rows-requires-clause-narrow
left_by_rows-requires-clause-narrow c = left_room c.args.parts.now (at c.args.excess.now) (face_of (faces_of c.args.faces.now) c.args.e) c.requires.design c.requires.narrow

pub overflow_mul-result : goal.overflow_mul-result
overflow_mul-result c =
    let d = design_of c.args.parts.now in
    let f = face_of (faces_of c.args.faces.now) c.args.e in
    let t = reach_room d (at c.args.excess.now) f c.requires.narrow in
    let g : FitsSigned w128 c.greatest_rest.result = search rules in
    let own : FitsSigned w128 (pos (2 ^ 40) *ℤ greatest_rest d f) = fits_signed_from_abs w128 _ (omega (arith, t.own)) in
    let l : FitsSigned w128 c.left_by_rows.result = search rules in
    let left : FitsSigned w128 (pos (2 ^ d.grid * d.plant_denominator) *ℤ left_by_rows d (at c.args.excess.now) f) = fits_signed_from_abs w128 _ (omega (arith, t.left)) in
    let scale : to_z w128 c.next_scale.result ≡ pos (2 ^ d.grid * d.plant_denominator) = cast c.next_scale.result _ c.next_scale.ensures.value (omega (arith, c.next_scale.ensures.value, c.next_scale.ensures.small)) in
    rw (scale, to_z-of_z w128 _ l, c.left_by_rows.ensures) left

pub overflow_add-result : goal.overflow_add-result
overflow_add-result c =
    let d = design_of c.args.parts.now in
    let f = face_of (faces_of c.args.faces.now) c.args.e in
    let t = reach_room d (at c.args.excess.now) f c.requires.narrow in
    let g : FitsSigned w128 c.greatest_rest.result = search rules in
    let own : FitsSigned w128 (pos (2 ^ 40) *ℤ greatest_rest d f) = fits_signed_from_abs w128 _ (omega (arith, t.own)) in
    let l : FitsSigned w128 c.left_by_rows.result = search rules in
    let left : FitsSigned w128 (pos (2 ^ d.grid * d.plant_denominator) *ℤ left_by_rows d (at c.args.excess.now) f) = fits_signed_from_abs w128 _ (omega (arith, t.left)) in
    let scale : to_z w128 c.next_scale.result ≡ pos (2 ^ d.grid * d.plant_denominator) = cast c.next_scale.result _ c.next_scale.ensures.value (omega (arith, c.next_scale.ensures.value, c.next_scale.ensures.small)) in
    let sum : FitsSigned w128 (pos (2 ^ 40) *ℤ greatest_rest d f +ℤ pos (2 ^ d.grid * d.plant_denominator) *ℤ left_by_rows d (at c.args.excess.now) f) = fits_signed_from_abs w128 _ (omega (arith, t.sum)) in
    rw (scale, to_z-of_z w128 _ l, c.left_by_rows.ensures, to_z-of_z w128 _ g, c.greatest_rest.ensures, to_z-of_z w128 _ own, to_z-of_z w128 _ left) sum

pub returns-clause-value : goal.returns-clause-value
returns-clause-value c =
    let d = design_of c.args.parts.now in
    let f = face_of (faces_of c.args.faces.now) c.args.e in
    let t = reach_room d (at c.args.excess.now) f c.requires.narrow in
    let g : FitsSigned w128 c.greatest_rest.result = search rules in
    let own : FitsSigned w128 (pos (2 ^ 40) *ℤ greatest_rest d f) = fits_signed_from_abs w128 _ (omega (arith, t.own)) in
    let l : FitsSigned w128 c.left_by_rows.result = search rules in
    let left : FitsSigned w128 (pos (2 ^ d.grid * d.plant_denominator) *ℤ left_by_rows d (at c.args.excess.now) f) = fits_signed_from_abs w128 _ (omega (arith, t.left)) in
    let scale : to_z w128 c.next_scale.result ≡ pos (2 ^ d.grid * d.plant_denominator) = cast c.next_scale.result _ c.next_scale.ensures.value (omega (arith, c.next_scale.ensures.value, c.next_scale.ensures.small)) in
    let sum : FitsSigned w128 (pos (2 ^ 40) *ℤ greatest_rest d f +ℤ pos (2 ^ d.grid * d.plant_denominator) *ℤ left_by_rows d (at c.args.excess.now) f) = fits_signed_from_abs w128 _ (omega (arith, t.sum)) in
    rw (scale, to_z-of_z w128 _ l, c.left_by_rows.ensures, to_z-of_z w128 _ g, c.greatest_rest.ensures, to_z-of_z w128 _ own, to_z-of_z w128 _ left, to_z-of_z w128 _ sum) refl

pub returns-clause-small : goal.returns-clause-small
returns-clause-small c =
    let d = design_of c.args.parts.now in
    let f = face_of (faces_of c.args.faces.now) c.args.e in
    let t = reach_room d (at c.args.excess.now) f c.requires.narrow in
    let g : FitsSigned w128 c.greatest_rest.result = search rules in
    let own : FitsSigned w128 (pos (2 ^ 40) *ℤ greatest_rest d f) = fits_signed_from_abs w128 _ (omega (arith, t.own)) in
    let l : FitsSigned w128 c.left_by_rows.result = search rules in
    let left : FitsSigned w128 (pos (2 ^ d.grid * d.plant_denominator) *ℤ left_by_rows d (at c.args.excess.now) f) = fits_signed_from_abs w128 _ (omega (arith, t.left)) in
    let scale : to_z w128 c.next_scale.result ≡ pos (2 ^ d.grid * d.plant_denominator) = cast c.next_scale.result _ c.next_scale.ensures.value (omega (arith, c.next_scale.ensures.value, c.next_scale.ensures.small)) in
    let sum : FitsSigned w128 (pos (2 ^ 40) *ℤ greatest_rest d f +ℤ pos (2 ^ d.grid * d.plant_denominator) *ℤ left_by_rows d (at c.args.excess.now) f) = fits_signed_from_abs w128 _ (omega (arith, t.sum)) in
    rw (scale, to_z-of_z w128 _ l, c.left_by_rows.ensures, to_z-of_z w128 _ g, c.greatest_rest.ensures, to_z-of_z w128 _ own, to_z-of_z w128 _ left, to_z-of_z w128 _ sum) t.sum
