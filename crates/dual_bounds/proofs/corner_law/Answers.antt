use Rattle.dual_bounds.proofs.MixLaws.{box_law, repair_law}
use Rattle.dual_bounds.proofs.corner_law.Goals as goal

pub returns : goal.returns
returns c = record { box_margin = box_law; repair = repair_law }
