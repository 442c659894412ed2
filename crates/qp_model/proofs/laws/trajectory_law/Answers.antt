use Rattle.qp_model.proofs.TrajectoryLaws as laws
use Rattle.qp_model.proofs.laws.trajectory_law.Goals as goal

pub returns : goal.returns
returns c = laws.trajectory_is
