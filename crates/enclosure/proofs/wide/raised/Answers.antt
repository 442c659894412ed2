use Rattle.std.proofs.Common.{pos, ◌+ℤ◌, rules, arith, FitsSigned}
use Rattle.std.specs.Int.{w128}
use Rattle.std.proofs.lemmas.Int.{ints, to_z-of_z}
use Rattle.enclosure.proofs.WideLaws.{raised_whole, raised_more}
use Rattle.enclosure.proofs.wide.raised.Goals as goal

pub returns-then-quotient-eq0-clause-value : goal.returns-then-quotient-eq0-clause-value
returns-then-quotient-eq0-clause-value c z h =
    let q : FitsSigned w128 c.args.quotient.whole = search rules in
    rw (to_z-of_z w128 _ q) (raised_whole z c.args.den c.args.quotient.whole c.args.quotient.rest h (omega (arith, ints)))

pub returns-else-quotient-eq0-clause-value : goal.returns-else-quotient-eq0-clause-value
returns-else-quotient-eq0-clause-value c z h =
    let q : FitsSigned w128 c.args.quotient.whole = search rules in
    let more : FitsSigned w128 (c.args.quotient.whole +ℤ pos 1) = search rules in
    rw (to_z-of_z w128 _ q, to_z-of_z w128 _ more) (raised_more z c.args.den c.args.quotient.whole c.args.quotient.rest h (omega (arith, ints)))
