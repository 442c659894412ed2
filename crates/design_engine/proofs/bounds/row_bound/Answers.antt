use Rattle.std.proofs.Common.{rules, unsigned_abs}
use Rattle.std.specs.Int.{w128}
use Rattle.std.proofs.lemmas.Int.{to_z-of_z}
use mir.Val.{SFits}
use Rattle.dual_bounds.proofs.NumberFacts.{less_shifted}
use Rattle.design_engine.proofs.bounds.row_bound.Goals as goal

pub lean_row_violation-requires-clause-narrow : goal.lean_row_violation-requires-clause-narrow
lean_row_violation-requires-clause-narrow c =
    let r : SFits w128 c.args.run.r = search rules in
    rw (to_z-of_z w128 _ r) (less_shifted c.args.own c.args.run.s (unsigned_abs c.args.run.r) c.requires.row c.requires.run.narrow)

pub row_violation-requires-clause-row : goal.row_violation-requires-clause-row
row_violation-requires-clause-row c = c.requires.row
