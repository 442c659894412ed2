use Rattle.design_maker.proofs.MadeLaws.{made_law}
use Rattle.design_maker.proofs.laws.made_law.Goals as goal

pub returns : goal.returns
returns c = made_law
