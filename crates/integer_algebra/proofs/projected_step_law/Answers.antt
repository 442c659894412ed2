use Rattle.integer_algebra.proofs.ProjectionLaws.{box_step}
use Rattle.integer_algebra.proofs.projected_step_law.Goals as goal

pub returns : goal.returns
returns c = box_step
