use Rattle.std.proofs.Common.{arith}
use Rattle.std.specs.Int.{w128}
use Rattle.std.proofs.lemmas.Int.{to_z-of_z}
use Rattle.design_engine.proofs.PrintedFacts.{run_within}
use Rattle.lean_engine.proofs.violations.row_violations.Goals as goal

pub violations_after-requires-clause-run : goal.violations_after-requires-clause-run
violations_after-requires-clause-run c =
    rw (to_z-of_z w128 _ c.ranges.r, to_z-of_z w128 _ c.ranges.eps, to_z-of_z w128 _ c.ranges.threshold)
    (run_within _ (omega arith) c.requires.some c.requires.narrow c.requires.steps c.requires.errors c.requires.small c.requires.target)

pub returns : goal.returns
returns c = rw (to_z-of_z w128 _ c.ranges.r, to_z-of_z w128 _ c.ranges.eps, to_z-of_z w128 _ c.ranges.threshold) at c.violations_after.ensures
