use Rattle.step_error.proofs.radii.farthest_at.Goals as goal

pub at-requires-clause-row_in : goal.at-requires-clause-row_in
at-requires-clause-row_in c = c.requires.row_in

pub at-requires-clause-col_in : goal.at-requires-clause-col_in
at-requires-clause-col_in c = c.requires.col_in
