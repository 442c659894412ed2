use Rattle.std.proofs.Common.{pos, ◌+ℤ◌, ◌-ℤ◌, ◌*ℤ◌, rules, arith, FitsSigned}
use Rattle.std.specs.Int.{w128}
use Rattle.std.proofs.lemmas.Int.{ints, to_z-of_z}
use Rattle.enclosure.proofs.WideLaws.{doubled_low, doubled_high}
use Rattle.enclosure.proofs.wide.doubled.Goals as goal

pub returns-then-quotient-room-clause-value : goal.returns-then-quotient-room-clause-value
returns-then-quotient-room-clause-value c z h =
    let q : FitsSigned w128 c.args.quotient.whole = search rules in
    let r : FitsSigned w128 c.args.quotient.rest = search rules in
    let test = rw (to_z-of_z w128 _ r) at c.if-quotient-room.true in
    let double : FitsSigned w128 (pos 2 *ℤ c.args.quotient.whole) = search rules in
    let twice : FitsSigned w128 (pos 2 *ℤ c.args.quotient.rest) = search rules in
    rw (to_z-of_z w128 _ q, to_z-of_z w128 _ r, to_z-of_z w128 _ double, to_z-of_z w128 _ twice) (doubled_low z c.args.den c.args.quotient.whole c.args.quotient.rest h (omega (arith, ints)))

pub returns-else-quotient-room-clause-value : goal.returns-else-quotient-room-clause-value
returns-else-quotient-room-clause-value c z h =
    let q : FitsSigned w128 c.args.quotient.whole = search rules in
    let r : FitsSigned w128 c.args.quotient.rest = search rules in
    let double : FitsSigned w128 (pos 2 *ℤ c.args.quotient.whole) = search rules in
    let more : FitsSigned w128 (pos 2 *ℤ c.args.quotient.whole +ℤ pos 1) = search rules in
    let room : FitsSigned w128 (c.args.den -ℤ c.args.quotient.rest) = search rules in
    let off : FitsSigned w128 (c.args.quotient.rest -ℤ (c.args.den -ℤ c.args.quotient.rest)) = search rules in
    rw (to_z-of_z w128 _ q, to_z-of_z w128 _ r, to_z-of_z w128 _ c.ranges.den, to_z-of_z w128 _ double, to_z-of_z w128 _ more, to_z-of_z w128 _ room, to_z-of_z w128 _ off)
    (doubled_high z c.args.den c.args.quotient.whole c.args.quotient.rest h (omega (arith, ints)))
