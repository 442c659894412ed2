use Rattle.std.proofs.Common.{arith}
use Rattle.std.proofs.lemmas.Grind.{common_steps}
use Rattle.overflow_check.proofs.word_width.width_of.Goals as goal

pub overflow_sub-w : goal.overflow_sub-w
overflow_sub-w c = grind (arith, common_steps)

pub overflow_add-w : goal.overflow_add-w
overflow_add-w c = grind (arith, common_steps)

pub loop-w-preserved : goal.loop-w-preserved
loop-w-preserved c = grind (arith, common_steps)

pub returns : goal.returns
returns c = grind (arith, common_steps)
