use Rattle.scaled_condense.proofs.Laws as laws
use Rattle.scaled_condense.proofs.form.fine_form_law.Goals as goal

pub returns : goal.returns
returns c = laws.fine_form_law
