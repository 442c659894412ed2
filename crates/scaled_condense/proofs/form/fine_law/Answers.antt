use Rattle.scaled_condense.proofs.Laws as laws
use Rattle.scaled_condense.proofs.form.fine_law.Goals as goal

pub returns : goal.returns
returns c = laws.fine_law
