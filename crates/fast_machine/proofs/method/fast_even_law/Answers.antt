use Rattle.fast_machine.proofs.FastEvenLaws as laws
use Rattle.fast_machine.proofs.method.fast_even_law.Goals as goal

pub returns : goal.returns
returns c = laws.even_law
