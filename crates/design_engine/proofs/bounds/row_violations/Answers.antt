use Rattle.std.specs.Int.{w128}
use Rattle.std.proofs.lemmas.Int.{to_z-of_z}
use Rattle.design_engine.proofs.PrintedFacts.{run_within}
use Rattle.design_engine.proofs.bounds.row_violations.Goals as goal

pub violations_after-requires-clause-run : goal.violations_after-requires-clause-run
violations_after-requires-clause-run c =
    rw (to_z-of_z w128 _ c.ranges.r, to_z-of_z w128 _ c.ranges.eps)
    (run_within _ c.requires.exponent c.requires.some c.requires.narrow c.requires.steps c.requires.errors c.requires.small tt)

pub returns : goal.returns
returns c = rw (to_z-of_z w128 _ c.ranges.r, to_z-of_z w128 _ c.ranges.eps) at c.violations_after.ensures
