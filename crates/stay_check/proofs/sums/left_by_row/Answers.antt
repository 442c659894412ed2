use Rattle.std.proofs.Common.{◌<◌, ◌∙◌, ◌+◌, ◌*◌, ◌^◌, ◌≤◌, ℤ, pos, ◌*ℤ◌, ◌+ℤ◌, rules, arith, refl, FitsSigned, unsigned_abs}
use Rattle.std.specs.Int.{w128}
use Rattle.std.proofs.lemmas.Int.{to_z-of_z, fits_signed_from_abs}
use Rattle.qp_model.specs.problem.Parts.{design_of}
use Rattle.stay_check.specs.FaceForms.{faces_of}
use Rattle.stay_check.proofs.RowFacts.{product_small}
use Rattle.stay_check.proofs.FaceFacts.{weight_small, denominator_small, denominator_is}
use Rattle.stay_check.proofs.SumFacts.{parts, parts_are}
use Rattle.stay_check.proofs.sums.left_by_row.Goals as goal
use Rattle.stay_check.proofs.sums.left_by_row.Goals.{After-first_bound}

-- a row's numbers, whose products and their sum fit
record Fit (w b l v : ℤ) : Type 0 where
  pub shifted : FitsSigned w128 (pos (2 ^ 40) *ℤ b)
  pub own : FitsSigned w128 (w *ℤ (pos (2 ^ 40) *ℤ b))
  pub over : FitsSigned w128 (w *ℤ l)
  pub beyond : FitsSigned w128 (w *ℤ l *ℤ v)
  pub sum : FitsSigned w128 (w *ℤ (pos (2 ^ 40) *ℤ b) +ℤ w *ℤ l *ℤ v)

own_fits : (w b : ℤ) → unsigned_abs w < 2 ^ 31 → unsigned_abs b < 2 ^ 31 → (FitsSigned w128 (pos (2 ^ 40) *ℤ b)) × (FitsSigned w128 (w *ℤ (pos (2 ^ 40) *ℤ b)))
own_fits w b h k =
    let small = product_small (pos (2 ^ 40)) b (2 ^ 41) (2 ^ 31) (omega arith) k in
    let own = product_small w (pos (2 ^ 40) *ℤ b) (2 ^ 31) (2 ^ 72) h (omega (arith, small)) in
    (fits_signed_from_abs w128 _ (omega (arith, small)), fits_signed_from_abs w128 _ (omega (arith, own)))

over_fits : (w l : ℤ) → unsigned_abs w < 2 ^ 31 → unsigned_abs l < 2 ^ 21 → FitsSigned w128 (w *ℤ l)
over_fits w l h k = fits_signed_from_abs w128 _ (omega (arith, product_small w l (2 ^ 31) (2 ^ 21) h k))

weight : (c : After-first_bound) → unsigned_abs c.at-weight.result < 2 ^ 31
weight c = rw c.at-weight.ensures (weight_small (design_of c.args.parts.now) (faces_of c.args.faces.now) c.args.e c.args.r c.requires.faces c.requires.face c.requires.row)

denominator : (c : After-first_bound) → unsigned_abs c.args.parts.now.limit_den < 2 ^ 21
denominator c = omega (arith, (denominator_small c.args.parts.now.limit_den c.requires.design.limit_den).1)

fit : (c : goal.After-first_excess) → unsigned_abs c.at-weight.result < 2 ^ 31 → unsigned_abs c.args.parts.now.limit_den < 2 ^ 21 →
    Fit c.at-weight.result c.first_bound.result c.args.parts.now.limit_den c.first_excess.result
fit c h k =
    let own = own_fits c.at-weight.result c.first_bound.result h c.first_bound.ensures.small in
    let narrow : unsigned_abs c.at-weight.result * (2 ^ 40 * unsigned_abs c.first_bound.result + unsigned_abs c.args.parts.now.limit_den * unsigned_abs c.first_excess.result) ≤ 2 ^ 125 =
    rw (c.at-weight.ensures, c.first_bound.ensures.value, c.first_excess.ensures) c.requires.narrow in
    let t = parts c.at-weight.result (pos (2 ^ 40)) c.first_bound.result c.args.parts.now.limit_den c.first_excess.result in
    record {
      shifted = own.0;
      own = own.1;
      over = over_fits c.at-weight.result c.args.parts.now.limit_den h k;
      beyond = fits_signed_from_abs w128 _ (omega (arith, t.beyond, narrow));
      sum = fits_signed_from_abs w128 _ (omega (arith, t.sum, narrow));
    }

pub overflow_mul-own-2 : goal.overflow_mul-own-2
overflow_mul-own-2 c =
    let w : FitsSigned w128 c.at-weight.result = search rules in
    let b : FitsSigned w128 c.first_bound.result = search rules in
    let own = own_fits c.at-weight.result c.first_bound.result (weight c) c.first_bound.ensures.small in
    rw (to_z-of_z w128 _ w, to_z-of_z w128 _ b, to_z-of_z w128 _ own.0) own.1

pub overflow_mul-result : goal.overflow_mul-result
overflow_mul-result c =
    let start = (goal.at.overflow_mul-result c).After-first_bound in
    let w : FitsSigned w128 c.at-weight.result = search rules in
    let l : FitsSigned w128 c.args.parts.now.limit_den = search rules in
    rw (to_z-of_z w128 _ w, to_z-of_z w128 _ l) (over_fits c.at-weight.result c.args.parts.now.limit_den (weight start) (denominator start))

pub overflow_mul-result-2 : goal.overflow_mul-result-2
overflow_mul-result-2 c =
    let w : FitsSigned w128 c.at-weight.result = search rules in
    let l : FitsSigned w128 c.args.parts.now.limit_den = search rules in
    let v : FitsSigned w128 c.first_excess.result = search rules in
    let start = (goal.at.overflow_mul-result-2 c).After-first_bound in
    let f = fit c (weight start) (denominator start) in
    rw (to_z-of_z w128 _ w, to_z-of_z w128 _ l, to_z-of_z w128 _ v, to_z-of_z w128 _ f.over) f.beyond

pub overflow_add-result : goal.overflow_add-result
overflow_add-result c =
    let w : FitsSigned w128 c.at-weight.result = search rules in
    let b : FitsSigned w128 c.first_bound.result = search rules in
    let l : FitsSigned w128 c.args.parts.now.limit_den = search rules in
    let v : FitsSigned w128 c.first_excess.result = search rules in
    let start = (goal.at.overflow_add-result c).After-first_bound in
    let f = fit c (weight start) (denominator start) in
    rw (to_z-of_z w128 _ w, to_z-of_z w128 _ l, to_z-of_z w128 _ v, to_z-of_z w128 _ b, to_z-of_z w128 _ f.shifted, to_z-of_z w128 _ f.own, to_z-of_z w128 _ f.over, to_z-of_z w128 _ f.beyond) f.sum

pub returns : goal.returns
returns c =
    let w : FitsSigned w128 c.at-weight.result = search rules in
    let b : FitsSigned w128 c.first_bound.result = search rules in
    let l : FitsSigned w128 c.args.parts.now.limit_den = search rules in
    let v : FitsSigned w128 c.first_excess.result = search rules in
    let start = (goal.at.returns c).After-first_bound in
    let f = fit c (weight start) (denominator start) in
    let den = denominator_is c.args.parts.now.limit_den c.requires.design.limit_den in
    rw (to_z-of_z w128 _ w, to_z-of_z w128 _ l, to_z-of_z w128 _ v, to_z-of_z w128 _ b, to_z-of_z w128 _ f.shifted, to_z-of_z w128 _ f.own, to_z-of_z w128 _ f.over, to_z-of_z w128 _ f.beyond, to_z-of_z w128 _ f.sum)
    (parts_are c.at-weight.result (pos (2 ^ 40)) c.first_bound.result c.args.parts.now.limit_den c.first_excess.result ∙ rw (c.at-weight.ensures, c.first_bound.ensures.value, c.first_excess.ensures, den) refl)
