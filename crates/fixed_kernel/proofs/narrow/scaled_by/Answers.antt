use Rattle.std.proofs.Common.{refl, rules, FitsSigned}
use Rattle.std.specs.Int.{w128}
use Rattle.std.proofs.lemmas.Int.{to_z-of_z}
use Rattle.fixed_kernel.proofs.narrow.scaled_by.Goals as goal

pub narrow_scaled-requires-clause-narrow : goal.narrow_scaled-requires-clause-narrow
narrow_scaled-requires-clause-narrow c = rw (to_z-of_z w128 _ c.ranges.v) (c.requires.narrow c.if-narrow.true)

pub short_scaled-requires-clause-fits : goal.short_scaled-requires-clause-fits
short_scaled-requires-clause-fits c = rw (to_z-of_z w128 _ c.ranges.v) c.requires.fits

pub returns-then-narrow : goal.returns-then-narrow
returns-then-narrow c =
    let fits : FitsSigned w128 c.narrow_scaled.result = search rules in
    rw (to_z-of_z w128 _ fits, c.narrow_scaled.ensures, to_z-of_z w128 _ c.ranges.v) refl

pub returns-else-narrow : goal.returns-else-narrow
returns-else-narrow c =
    let fits : FitsSigned w128 c.short_scaled.result = search rules in
    rw (to_z-of_z w128 _ fits, c.short_scaled.ensures, to_z-of_z w128 _ c.ranges.v) refl
