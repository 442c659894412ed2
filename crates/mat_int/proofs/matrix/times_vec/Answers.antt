use Rattle.std.proofs.Common.{arith, rules}
use Rattle.std.proofs.lemmas.Grind.{common_steps, elements}
use Rattle.mat_int.proofs.matrix.times_vec.Goals as goal

pub loop-i-preserved : goal.loop-i-preserved
loop-i-preserved c = record {
  made = grind (arith, common_steps);
  narrow = search rules;
}

pub returns-clause-ok : goal.returns-clause-ok
returns-clause-ok c = grind (arith, common_steps)

pub returns-clause-wide : goal.returns-clause-wide
returns-clause-wide c = grind (arith, elements)
