use Rattle.std.proofs.Common.{◌≡◌, ◌<◌, ◌^◌, ◌*◌, ◌≤◌, subst, rules, arith, refl, FitsSigned, unsigned_abs}
use Rattle.std.specs.Int.{w128}
use Rattle.std.proofs.lemmas.Int.{to_z-of_z}
use Rattle.std.proofs.lemmas.Nat.{mul-lt}
use Rattle.qp_model.specs.problem.Parts.{design_of}
use Rattle.std.specs.Option.{SomeIff}
use Rattle.integer_algebra.specs.Sums.{at}
use Rattle.mat_int.specs.Matrix.{entry_of}
use Rattle.stay_check.specs.FirstRows.{first_row}
use Rattle.stay_check.specs.FaceForms.{faces_of}
use Rattle.stay_check.proofs.FaceFacts.{weight_small, denominator_small, term_is}
use Rattle.stay_check.proofs.size.left_term.Goals as goal

pub overflow_mul-own-2 : goal.overflow_mul-own-2
overflow_mul-own-2 c =
    let a : FitsSigned w128 c.at.result = search rules in
    let b : FitsSigned w128 c.first_bound.result = search rules in
    let weight : c.unsigned_abs-weight.result < 2 ^ 31 = rw (c.unsigned_abs-weight.ensures.value, to_z-of_z w128 _ a, c.at.ensures)
    (weight_small (design_of c.args.parts.now) (faces_of c.args.faces.now) c.args.e c.args.r c.requires.faces c.requires.face c.requires.row) in
    let bound : c.unsigned_abs.result < 2 ^ 31 = rw (c.unsigned_abs.ensures.value, to_z-of_z w128 _ b) c.first_bound.ensures.small in
    record { fits = omega (arith, mul-lt c.unsigned_abs-weight.result (2 ^ 40 * c.unsigned_abs.result) (2 ^ 31) (2 ^ 71) weight (omega (arith, bound))) }

pub overflow_mul-over : goal.overflow_mul-over
overflow_mul-over c =
    let a : FitsSigned w128 c.at.result = search rules in
    let b : FitsSigned w128 c.args.parts.now.limit_den = search rules in
    let weight : c.unsigned_abs-weight.result < 2 ^ 31 = rw (c.unsigned_abs-weight.ensures.value, to_z-of_z w128 _ a, c.at.ensures)
    (weight_small (design_of c.args.parts.now) (faces_of c.args.faces.now) c.args.e c.args.r c.requires.faces c.requires.face c.requires.row) in
    let den : c.unsigned_abs-2.result < 2 ^ 21 = rw (c.unsigned_abs-2.ensures.value, to_z-of_z w128 _ b) (omega (arith, (denominator_small c.args.parts.now.limit_den c.requires.design.limit_den).1)) in
    record { fits = omega (arith, mul-lt c.unsigned_abs-weight.result c.unsigned_abs-2.result (2 ^ 31) (2 ^ 21) weight den) }

pub returns : goal.returns
returns c =
    let d = design_of c.args.parts.now in
    let a : FitsSigned w128 c.at.result = search rules in
    let b : FitsSigned w128 c.first_bound.result = search rules in
    let l : FitsSigned w128 c.args.parts.now.limit_den = search rules in
    let x : FitsSigned w128 c.first_excess.result = search rules in
    let w : c.unsigned_abs-weight.result ≡ unsigned_abs (entry_of c.args.faces.now.weights c.args.e c.args.r) = rw (c.unsigned_abs-weight.ensures.value, to_z-of_z w128 _ a, c.at.ensures) refl in
    let bound : c.unsigned_abs.result ≡ unsigned_abs (first_row d c.args.r).bound = rw (c.unsigned_abs.ensures.value, to_z-of_z w128 _ b, c.first_bound.ensures.value) refl in
    let den : c.unsigned_abs-2.result ≡ unsigned_abs c.args.parts.now.limit_den = rw (c.unsigned_abs-2.ensures.value, to_z-of_z w128 _ l) refl in
    let v : c.unsigned_abs-3.result ≡ unsigned_abs (at c.args.excess.now (first_row d c.args.r).row) = rw (c.unsigned_abs-3.ensures.value, to_z-of_z w128 _ x, c.first_excess.ensures) refl in
    subst (λ n. SomeIff c.limited_sum.result (n ≤ 2 ^ 126) n)
    (rw (c.in_ok-beyond.ensures.1, w, bound, den, v) (term_is _ _ _ (2 ^ 40) _)) c.limited_sum.ensures
