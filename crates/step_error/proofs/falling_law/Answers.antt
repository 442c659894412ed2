use Rattle.step_error.proofs.FallingLaws.{epsilon_falls}
use Rattle.step_error.proofs.falling_law.Goals as goal

pub returns : goal.returns
returns c = epsilon_falls
