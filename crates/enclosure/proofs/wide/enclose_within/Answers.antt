use Rattle.std.proofs.Common.{◌≡◌, ◌^◌, ◌+◌, ◌≤◌, ℤ, pos, ◌+ℤ◌, ◌*ℤ◌, ◌≤ℤ◌, unsigned_abs, rules, arith, refl, ap₂, FitsSigned}
use Rattle.std.specs.Int.{w128}
use Rattle.std.proofs.lemmas.Int.{ints, to_z-of_z}
use Rattle.integer_algebra.specs.Division.{ceil_of}
use Rattle.integer_algebra.proofs.OrderLaws.{add_nonneg_z}
use Rattle.enclosure.proofs.RoomLaws.{same_pair, refused, limit_is, ceil_small}
use Rattle.enclosure.proofs.WideLaws.{too_far_within, too_wide, none_of, covered}
use Rattle.enclosure.proofs.wide.enclose_within.Goals as goal

-- a radius rounded up
raised_nonneg : (c s : ℤ) (b : ℤ) → pos 1 ≤ℤ b → pos 0 ≤ℤ s → c ≡ ceil_of (pos (2 ^ 40) *ℤ s) (unsigned_abs b) → pos 0 ≤ℤ c
raised_nonneg c s b p h e = rw e (ceil_small (pos (2 ^ 40) *ℤ s) (unsigned_abs b) (scaled s h) (omega (arith, ints, p))).0
  where
    scaled : (s : ℤ) → pos 0 ≤ℤ s → pos 0 ≤ℤ (pos (2 ^ 40) *ℤ s)
    scaled s h = omega (arith, ints, h)

-- it and what rounding adds fit
fits : (r l : ℤ) → unsigned_abs r ≤ 2 ^ 126 + 2 ^ 41 → pos 0 ≤ℤ l → l ≤ℤ pos 1 → FitsSigned w128 (r +ℤ l)
fits r l h j k = omega (arith, ints, h, j, k)

pub returns-in_err-quotient-clause-room : goal.returns-in_err-quotient-clause-room
returns-in_err-quotient-clause-room c =
    none_of c.from_residual.result _ c.from_residual.ensures
    (too_far_within c.args.num c.args.radius c.args.den c.requires.divisor c.requires.radius
    (rw (to_z-of_z w128 _ c.ranges.num, to_z-of_z w128 _ c.ranges.den) at c.in_err-quotient.ensures.far refl))

pub returns-in_err-spread-clause-room : goal.returns-in_err-spread-clause-room
returns-in_err-spread-clause-room c =
    none_of c.from_residual-in_err-spread.result _ c.from_residual-in_err-spread.ensures
    (too_wide c.args.num c.args.radius c.args.den c.requires.divisor c.requires.radius
    (rw (to_z-of_z w128 _ c.ranges.radius, to_z-of_z w128 _ c.ranges.den) at c.in_err-spread.ensures.far refl))

pub overflow_add-number : goal.overflow_add-number
overflow_add-number c =
    let r : FitsSigned w128 c.raised.result = search rules in
    let l : FitsSigned w128 c.left.result = search rules in
    rw (to_z-of_z w128 _ r, to_z-of_z w128 _ l) (fits c.raised.result c.left.result c.raised.ensures.small c.left.ensures.nonnegative c.left.ensures.one)

pub invariant_of-number : goal.invariant_of-number
invariant_of-number c =
    let r : FitsSigned w128 c.raised.result = search rules in
    let l : FitsSigned w128 c.left.result = search rules in
    let up = rw (to_z-of_z w128 _ c.ranges.radius, to_z-of_z w128 _ c.ranges.den) at (c.raised.ensures.value _ c.in_ok-spread.ensures.value) in
    let some = raised_nonneg c.raised.result c.args.radius c.args.den c.requires.divisor c.requires.radius up in
    let sum : FitsSigned w128 (c.raised.result +ℤ c.left.result) = fits c.raised.result c.left.result c.raised.ensures.small c.left.ensures.nonnegative c.left.ensures.one in
    record { nonnegative = rw (to_z-of_z w128 _ r, to_z-of_z w128 _ l, to_z-of_z w128 _ sum) (add_nonneg_z some c.left.ensures.nonnegative) }

pub returns-in_err-limited_sum-clause-room : goal.returns-in_err-limited_sum-clause-room
returns-in_err-limited_sum-clause-room c =
    let m : FitsSigned w128 c.rounded.result = search rules in
    let r : FitsSigned w128 c.raised.result = search rules in
    let l : FitsSigned w128 c.left.result = search rules in
    let mid = rw (to_z-of_z w128 _ c.ranges.num, to_z-of_z w128 _ c.ranges.den) at (c.rounded.ensures _ c.in_ok-quotient.ensures.value) in
    let off = rw (to_z-of_z w128 _ c.ranges.num, to_z-of_z w128 _ c.ranges.den) at (c.left.ensures.value _ c.in_ok-quotient.ensures.value) in
    let up = rw (to_z-of_z w128 _ c.ranges.radius, to_z-of_z w128 _ c.ranges.den) at (c.raised.ensures.value _ c.in_ok-spread.ensures.value) in
    let some = raised_nonneg c.raised.result c.args.radius c.args.den c.requires.divisor c.requires.radius up in
    let sum : FitsSigned w128 (c.raised.result +ℤ c.left.result) = fits c.raised.result c.left.result c.raised.ensures.small c.left.ensures.nonnegative c.left.ensures.one in
    let size = rw (to_z-of_z w128 _ m, to_z-of_z w128 _ r, to_z-of_z w128 _ l, to_z-of_z w128 _ sum) at c.magnitude.ensures in
    refused c.from_residual-in_err-limited_sum.result _ _ c.from_residual-in_err-limited_sum.ensures
    (covered c.rounded.result (c.raised.result +ℤ c.left.result) _ _ c.magnitude.result mid (ap₂ (λ (a b : ℤ). a +ℤ b) up off) (add_nonneg_z some c.left.ensures.nonnegative) size)
    c.in_err-limited_sum.ensures

pub returns-clause-value : goal.returns-clause-value
returns-clause-value c =
    let m : FitsSigned w128 c.rounded.result = search rules in
    let r : FitsSigned w128 c.raised.result = search rules in
    let l : FitsSigned w128 c.left.result = search rules in
    let mid = rw (to_z-of_z w128 _ c.ranges.num, to_z-of_z w128 _ c.ranges.den) at (c.rounded.ensures _ c.in_ok-quotient.ensures.value) in
    let off = rw (to_z-of_z w128 _ c.ranges.num, to_z-of_z w128 _ c.ranges.den) at (c.left.ensures.value _ c.in_ok-quotient.ensures.value) in
    let up = rw (to_z-of_z w128 _ c.ranges.radius, to_z-of_z w128 _ c.ranges.den) at (c.raised.ensures.value _ c.in_ok-spread.ensures.value) in
    let sum : FitsSigned w128 (c.raised.result +ℤ c.left.result) = fits c.raised.result c.left.result c.raised.ensures.small c.left.ensures.nonnegative c.left.ensures.one in
    rw (to_z-of_z w128 _ m, to_z-of_z w128 _ r, to_z-of_z w128 _ l, to_z-of_z w128 _ sum) (same_pair mid (ap₂ (λ (a b : ℤ). a +ℤ b) up off))

pub returns-clause-room : goal.returns-clause-room
returns-clause-room c =
    let m : FitsSigned w128 c.rounded.result = search rules in
    let r : FitsSigned w128 c.raised.result = search rules in
    let l : FitsSigned w128 c.left.result = search rules in
    let mid = rw (to_z-of_z w128 _ c.ranges.num, to_z-of_z w128 _ c.ranges.den) at (c.rounded.ensures _ c.in_ok-quotient.ensures.value) in
    let off = rw (to_z-of_z w128 _ c.ranges.num, to_z-of_z w128 _ c.ranges.den) at (c.left.ensures.value _ c.in_ok-quotient.ensures.value) in
    let up = rw (to_z-of_z w128 _ c.ranges.radius, to_z-of_z w128 _ c.ranges.den) at (c.raised.ensures.value _ c.in_ok-spread.ensures.value) in
    let some = raised_nonneg c.raised.result c.args.radius c.args.den c.requires.divisor c.requires.radius up in
    let sum : FitsSigned w128 (c.raised.result +ℤ c.left.result) = fits c.raised.result c.left.result c.raised.ensures.small c.left.ensures.nonnegative c.left.ensures.one in
    let size = rw (to_z-of_z w128 _ m, to_z-of_z w128 _ r, to_z-of_z w128 _ l, to_z-of_z w128 _ sum) at c.magnitude.ensures in (
      λ h. (limit_is _ _ (covered c.rounded.result (c.raised.result +ℤ c.left.result) _ _ c.magnitude.result mid (ap₂ (λ (a b : ℤ). a +ℤ b) up off)
          (add_nonneg_z some c.left.ensures.nonnegative) size)).0 c.in_ok-limited_sum.ensures.0,
      λ h. refl,
    )
