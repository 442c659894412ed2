use Rattle.settle_check.proofs.SettlingLaws.{certified_settling_law}
use Rattle.settle_check.proofs.laws.certified_settling_law.Goals as goal

pub returns : goal.returns
returns c = certified_settling_law
