use Rattle.std.proofs.lemmas.Grind.{common_steps}
use Rattle.std.proofs.Common.{arith}
use Rattle.trials_number.proofs.enclosures.weighted.Goals as goal

pub gram-requires-clause-shape : goal.gram-requires-clause-shape
gram-requires-clause-shape c = grind (arith, common_steps)

pub gram-requires-clause-signs : goal.gram-requires-clause-signs
gram-requires-clause-signs c = grind (arith, common_steps)
