use Rattle.scaled_run.proofs.CornerLaws as laws
use Rattle.scaled_run.proofs.laws.exact_corners_are_scaled.Goals as goal

pub returns : goal.returns
returns c = laws.exact_corners_are_scaled
