use Rattle.step_error.proofs.EntryLaws as laws
use Rattle.step_error.proofs.entry_law.Goals as goal

pub returns : goal.returns
returns c = laws.entry
