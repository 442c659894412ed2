use Rattle.std.proofs.Common.{◌≡◌, ◌<◌, ◌+ℤ◌, ◌≤ℤ◌, ℕ, ℤ, pos, unsigned_abs, rules, arith, ap₂, FitsSigned}
use Rattle.std.specs.Int.{w128}
use Rattle.std.proofs.lemmas.Int.{ints, to_z-of_z}
use Rattle.integer_algebra.specs.Division.{ceil_of}
use Rattle.frac_scaled.specs.Enclosures.{inexact}
use Rattle.enclosure.proofs.RoomLaws.{same_pair, reach_is, ceil_small, inexact_small, sum_fits}
use Rattle.integer_algebra.proofs.OrderLaws.{add_nonneg_z}
use Rattle.enclosure.proofs.single.divided.Goals as goal
use Rattle.enclosure.proofs.single.divided.Goals.{After-inexact}

-- the parts of the radius, and that their sum fits and is not negative
record IsRadius (a r x y : ℤ) (den : ℕ) : Type 0 where
  pub up : x ≡ ceil_of r den
  pub more : y ≡ inexact a den
  pub sound : pos 0 ≤ℤ (ceil_of r den +ℤ inexact a den)
  pub fits : FitsSigned w128 (x +ℤ y)

radius : (c : After-inexact) → IsRadius c.args.a.mid c.args.a.rad c.ceil_div.result c.inexact.result (unsigned_abs c.args.den)
radius c =
    let f : FitsSigned w128 c.args.a.mid = search rules in
    let r : FitsSigned w128 c.args.a.rad = search rules in
    let up = rw (to_z-of_z w128 _ r, to_z-of_z w128 _ c.ranges.den) at c.ceil_div.ensures in
    let more = rw (to_z-of_z w128 _ f, to_z-of_z w128 _ c.ranges.den) at c.inexact.ensures in
    let most = rw (reach_is c.args.a.mid c.args.a.rad c.args.a.nonnegative) at c.requires.room in
    let divisor : 0 < unsigned_abs c.args.den = omega (arith, ints, c.requires.divisor) in
    let small = ceil_small c.args.a.rad (unsigned_abs c.args.den) c.args.a.nonnegative divisor in
    let one = inexact_small c.args.a.mid (unsigned_abs c.args.den) in
    record {
      up = up;
      more = more;
      sound = add_nonneg_z small.0 one.0;
      fits = rw (up, more) (sum_fits _ _ c.args.a.mid c.args.a.rad small one most);
    }

pub overflow_add-result : goal.overflow_add-result
overflow_add-result c =
    let up : FitsSigned w128 c.ceil_div.result = search rules in
    let more : FitsSigned w128 c.inexact.result = search rules in
    rw (to_z-of_z w128 _ up, to_z-of_z w128 _ more) (radius c).fits

pub invariant_of-result : goal.invariant_of-result
invariant_of-result c =
    let up : FitsSigned w128 c.ceil_div.result = search rules in
    let more : FitsSigned w128 c.inexact.result = search rules in
    let is = radius c in
    record { nonnegative = rw (to_z-of_z w128 _ up, to_z-of_z w128 _ more, to_z-of_z w128 _ is.fits, is.up, is.more) is.sound }

pub returns : goal.returns
returns c =
    let f : FitsSigned w128 c.args.a.mid = search rules in
    let mid : FitsSigned w128 c.round_div.result = search rules in
    let up : FitsSigned w128 c.ceil_div.result = search rules in
    let more : FitsSigned w128 c.inexact.result = search rules in
    let is = radius (goal.at.returns c).After-inexact in
    let mid_is = rw (to_z-of_z w128 _ f, to_z-of_z w128 _ c.ranges.den) at c.round_div.ensures in
    same_pair (rw (to_z-of_z w128 _ mid) mid_is) (rw (to_z-of_z w128 _ up, to_z-of_z w128 _ more, to_z-of_z w128 _ is.fits) (ap₂ (λ (x y : ℤ). x +ℤ y) is.up is.more))
