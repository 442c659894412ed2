use Rattle.fast_machine.proofs.WeightLaws as laws
use Rattle.fast_machine.proofs.method.weights_law.Goals as goal

pub returns-clause-sum : goal.returns-clause-sum
returns-clause-sum c = laws.weights_law

pub returns-clause-start : goal.returns-clause-start
returns-clause-start c = laws.start_law

pub returns-clause-carry : goal.returns-clause-carry
returns-clause-carry c = laws.carry_law
