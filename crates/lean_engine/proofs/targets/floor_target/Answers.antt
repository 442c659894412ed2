use Rattle.std.proofs.Common.{arith}
use Rattle.std.proofs.lemmas.Int.{ints}
use Rattle.std.proofs.lemmas.Grind.{common_steps}
use Rattle.lean_engine.proofs.targets.floor_target.Goals as goal

pub nonzero_div-result : goal.nonzero_div-result
nonzero_div-result c = grind (ints, arith, common_steps)

pub returns : goal.returns
returns c = grind (ints, arith, common_steps)
