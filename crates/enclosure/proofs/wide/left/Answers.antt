use Rattle.std.proofs.Common.{arith}
use Rattle.std.proofs.lemmas.Int.{ints}
use Rattle.enclosure.proofs.WideLaws.{none_left, some_left}
use Rattle.enclosure.proofs.wide.left.Goals as goal

pub returns-then-quotient-eq0-clause-value : goal.returns-then-quotient-eq0-clause-value
returns-then-quotient-eq0-clause-value c z h = none_left z c.args.den c.args.quotient.whole c.args.quotient.rest h (omega (arith, ints))

pub returns-else-quotient-eq0-clause-value : goal.returns-else-quotient-eq0-clause-value
returns-else-quotient-eq0-clause-value c z h = some_left z c.args.den c.args.quotient.whole c.args.quotient.rest h (omega (arith, ints))
