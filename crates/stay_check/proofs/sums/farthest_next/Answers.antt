use Rattle.std.proofs.Common.{◌≡◌, ◌∙◌, ◌^◌, ◌≤◌, ◌%◌, ◌==◌, pos, ◌+ℤ◌, rules, arith, refl, FitsSigned, unsigned_abs, to_z}
use Rattle.std.specs.Int.{w128}
use Rattle.std.proofs.lemmas.Int.{to_z-of_z, fits_signed_from_abs, ints}
use Rattle.integer_algebra.specs.Sums.{at}
use Rattle.integer_algebra.specs.Division.{round_of}
use Rattle.qp_model.specs.problem.Parts.{design_of}
use Rattle.stay_check.specs.FaceForms.{faces_of, face_of, towards, face_reach, reach_over}
use Rattle.stay_check.proofs.SumFacts.{cast, round_size, abs_towards, added_shift}
use Rattle.stay_check.proofs.sums.farthest_next.Goals as goal

-- what is rounded, in whole numbers
rounded : (c : goal.After-shift_of) → c.round_div-rounded.result ≡
    (let f = face_of (faces_of c.args.faces.now) c.args.e in round_of (towards f (face_reach (design_of c.args.parts.now) (at c.args.excess.now) f)) (reach_over (design_of c.args.parts.now) f))
rounded c =
    let d = design_of c.args.parts.now in
    let f = face_of (faces_of c.args.faces.now) c.args.e in
    let over : to_z w128 c.reach_over-over.result ≡ pos (reach_over d f) = cast c.reach_over-over.result _ c.reach_over-over.ensures.value (omega (arith, c.reach_over-over.ensures.value, c.reach_over-over.ensures.small)) in
    let r : FitsSigned w128 c.face_reach.result = search rules in
    let t : FitsSigned w128 c.towards.result = search rules in
    c.round_div-rounded.ensures ∙ rw (over, to_z-of_z w128 _ t, c.towards.ensures, to_z-of_z w128 _ r, c.face_reach.ensures.value) refl

-- the shift can be added to it
fits : (c : goal.After-shift_of) → FitsSigned w128 (c.round_div-rounded.result +ℤ c.shift_of.result)
fits c =
    let d = design_of c.args.parts.now in
    let f = face_of (faces_of c.args.faces.now) c.args.e in
    let small : unsigned_abs (face_reach d (at c.args.excess.now) f) ≤ 2 ^ 125 = rw (← c.face_reach.ensures.value) c.face_reach.ensures.small in
    let some : 1 ≤ reach_over d f = rw (← c.reach_over-over.ensures.value) c.reach_over-over.ensures.some in
    let near = round_size (towards f (face_reach d (at c.args.excess.now) f)) (reach_over d f) some in
    fits_signed_from_abs w128 _ (added_shift _ _ c.shift_of.result (rounded c) near (omega (arith, abs_towards (c.args.e % 2 == 0) (face_reach d (at c.args.excess.now) f), small)) c.shift_of.ensures.small)

pub overflow_add-result : goal.overflow_add-result
overflow_add-result c =
    let q : FitsSigned w128 c.round_div-rounded.result = search rules in
    let s : FitsSigned w128 c.shift_of.result = search rules in
    rw (to_z-of_z w128 _ q, to_z-of_z w128 _ s) (fits c)

pub returns : goal.returns
returns c =
    let q : FitsSigned w128 c.round_div-rounded.result = search rules in
    let s : FitsSigned w128 c.shift_of.result = search rules in
    rw (to_z-of_z w128 _ q, to_z-of_z w128 _ s, to_z-of_z w128 _ (fits c), rounded c, c.shift_of.ensures.value) refl

pub towards-requires : goal.towards-requires
towards-requires c =
    let r : FitsSigned w128 c.face_reach.result = search rules in
    rw (to_z-of_z w128 _ r) (omega (arith, c.face_reach.ensures.small))

pub overflow_cast-over : goal.overflow_cast-over
overflow_cast-over c = omega (arith, c.reach_over-over.ensures.small)

pub round_div-rounded-requires : goal.round_div-rounded-requires
round_div-rounded-requires c =
    let over : to_z w128 c.reach_over-over.result ≡ pos c.reach_over-over.result = cast c.reach_over-over.result _ refl (omega (arith, c.reach_over-over.ensures.small)) in
    rw over (omega (arith, ints, c.reach_over-over.ensures.some))
