use Rattle.design_engine.proofs.TargetLaws.{targets_law}
use Rattle.design_engine.proofs.laws.targets_law.Goals as goal

pub returns : goal.returns
returns c = targets_law
