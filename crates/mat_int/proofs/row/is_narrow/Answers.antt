use Rattle.mat_int.proofs.Dots.{narrow_steps}
use Rattle.std.proofs.Common.{arith}
use Rattle.std.proofs.lemmas.Grind.{common_steps}
use Rattle.mat_int.proofs.row.is_narrow.Goals as goal

pub returns : goal.returns
returns c = grind (arith, common_steps)

pub returns-in_default : goal.returns-in_default
returns-in_default c = grind (arith, narrow_steps)

pub returns-in_default-checked_add : goal.returns-in_default-checked_add
returns-in_default-checked_add c = grind (arith, narrow_steps)

pub loop-i-preserved : goal.loop-i-preserved
loop-i-preserved c = grind (arith, narrow_steps)
