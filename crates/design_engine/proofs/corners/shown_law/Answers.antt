use Rattle.design_engine.proofs.CornerLaws as laws
use Rattle.design_engine.proofs.corners.shown_law.Goals as goal

pub returns : goal.returns
returns c = laws.shown_law
