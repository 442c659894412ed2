use Rattle.std.proofs.Common.{rules}
use Rattle.std.specs.Int.{w128}
use mir.Val.{SFits}
use Rattle.std.proofs.lemmas.Int.{to_z-of_z}
use Rattle.dual_bounds.proofs.NumberFacts.{shifted_fits, shifted_is}
use Rattle.dual_bounds.proofs.numbers.whole.Goals as goal

pub scaled-requires-clause-fits : goal.scaled-requires-clause-fits
scaled-requires-clause-fits c = rw (to_z-of_z w128 _ c.ranges.r) (shifted_fits c.args.e c.args.r c.requires.some c.requires.fits)

pub returns-clause-small : goal.returns-clause-small
returns-clause-small c =
    let f : SFits w128 c.scaled.result = search rules in
    rw (c.unsigned_abs.ensures.value, to_z-of_z w128 _ f, c.scaled.ensures, to_z-of_z w128 _ c.ranges.r) (shifted_is c.args.e c.args.r c.requires.some c.requires.fits)
