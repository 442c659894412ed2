use Rattle.std.proofs.Common.{arith}
use Rattle.std.specs.Int.{w128}
use Rattle.std.proofs.lemmas.Int.{to_z-of_z}
use Rattle.qp_model.proofs.VersionLaws.{design_rows_le}
use Rattle.condensed_form.proofs.bounds.scaled_bounds.Goals as goal

pub scaled_numbers-requires-clause-count : goal.scaled_numbers-requires-clause-count
scaled_numbers-requires-clause-count c = omega (arith, design_rows_le c.args.parts.now c.requires.design)

pub scaled_numbers-requires-clause-stage : goal.scaled_numbers-requires-clause-stage
scaled_numbers-requires-clause-stage c = omega (arith, c.requires.design.stage_rows.cols)

pub scaled_numbers-requires-clause-last : goal.scaled_numbers-requires-clause-last
scaled_numbers-requires-clause-last c = omega (arith, c.requires.design.final_rows.cols)

pub scaled_numbers-requires-clause-fits : goal.scaled_numbers-requires-clause-fits
scaled_numbers-requires-clause-fits c = rw (to_z-of_z w128 c.args.scale c.ranges.scale) c.requires.fits

pub returns : goal.returns
returns c = rw (to_z-of_z w128 c.args.scale c.ranges.scale) at c.scaled_numbers.ensures
