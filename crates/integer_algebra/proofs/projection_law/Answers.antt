use Rattle.integer_algebra.proofs.ProjectionLaws.{box_nearer}
use Rattle.integer_algebra.proofs.projection_law.Goals as goal

pub returns : goal.returns
returns c = box_nearer
