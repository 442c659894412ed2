use Rattle.std.proofs.Common.{◌≡◌, false, IsTrue, pos, ◌-ℤ◌, ◌*ℤ◌, FitsSigned, arith}
use lib.Signed.{lt_z}
use Rattle.std.specs.Int.{w128}
use Rattle.std.proofs.lemmas.Int.{ints, to_z-of_z}
use Rattle.approx_inverse.proofs.MoveLaws.{wide_above, wide_below}
use Rattle.approx_inverse.proofs.descent.is_wide.Goals as goal

pub returns-then-d-twice : goal.returns-then-d-twice
returns-then-d-twice c =
    let fits : FitsSigned w128 (pos 2 *ℤ c.args.r) = omega (arith, ints, c.requires) in
    let yes : IsTrue (lt_z c.args.d (pos 2 *ℤ c.args.r)) = rw (to_z-of_z w128 _ c.ranges.d, to_z-of_z w128 _ c.ranges.r, to_z-of_z w128 _ fits) at c.if-d-twice.true in
    rw (to_z-of_z w128 _ c.ranges.d, to_z-of_z w128 _ c.ranges.r, to_z-of_z w128 _ fits) (λ t. wide_above c.args.r c.args.d yes, λ w. yes)

pub returns-else-d-twice : goal.returns-else-d-twice
returns-else-d-twice c =
    let fits : FitsSigned w128 (pos 2 *ℤ c.args.r) = omega (arith, ints, c.requires) in
    let other : FitsSigned w128 (pos 0 -ℤ pos 2 *ℤ c.args.r) = omega (arith, ints, c.requires) in
    let no : lt_z c.args.d (pos 2 *ℤ c.args.r) ≡ false = rw (to_z-of_z w128 _ c.ranges.d, to_z-of_z w128 _ c.ranges.r, to_z-of_z w128 _ fits) at c.if-d-twice.false in
    rw (to_z-of_z w128 _ c.ranges.d, to_z-of_z w128 _ c.ranges.r, to_z-of_z w128 _ fits, to_z-of_z w128 _ other) (wide_below c.args.r c.args.d no)
