use Rattle.approx_inverse.proofs.EntryLaws as laws
use Rattle.approx_inverse.proofs.laws.entry_law.Goals as goal

pub returns : goal.returns
returns c = laws.entry
