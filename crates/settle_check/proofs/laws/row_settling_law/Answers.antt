use Rattle.settle_check.proofs.SettlingLaws as laws
use Rattle.settle_check.proofs.laws.row_settling_law.Goals as goal

pub returns : goal.returns
returns c = laws.row_settling_law
