use Rattle.corner_margin.proofs.CornerLaws as laws
use Rattle.corner_margin.proofs.laws.fine_corners_law.Goals as goal

pub returns : goal.returns
returns c = laws.fine_corners_law
