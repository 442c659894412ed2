use Rattle.word_region.proofs.LendingLaws as laws
use Rattle.word_region.proofs.law.lending_law.Goals as goal

pub returns : goal.returns
returns c = laws.written
