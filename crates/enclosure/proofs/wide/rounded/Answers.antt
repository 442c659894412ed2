use Rattle.std.proofs.Common.{pos, ◌+ℤ◌, rules, arith, FitsSigned}
use Rattle.std.specs.Int.{w128}
use Rattle.std.proofs.lemmas.Int.{ints, to_z-of_z}
use Rattle.enclosure.proofs.WideLaws.{nearest_below, nearest_above}
use Rattle.enclosure.proofs.wide.rounded.Goals as goal

pub returns-then-quotient-den : goal.returns-then-quotient-den
returns-then-quotient-den c z h =
    let q : FitsSigned w128 c.args.quotient.whole = search rules in
    rw (to_z-of_z w128 _ q) (nearest_below z c.args.den c.args.quotient.whole c.args.quotient.rest h (omega (arith, ints)))

pub returns-else-quotient-den : goal.returns-else-quotient-den
returns-else-quotient-den c z h =
    let q : FitsSigned w128 c.args.quotient.whole = search rules in
    let more : FitsSigned w128 (c.args.quotient.whole +ℤ pos 1) = search rules in
    rw (to_z-of_z w128 _ q, to_z-of_z w128 _ more) (nearest_above z c.args.den c.args.quotient.whole c.args.quotient.rest h (omega (arith, ints)))
