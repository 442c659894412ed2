use Rattle.qp_model.proofs.FormLaws as laws
use Rattle.qp_model.proofs.laws.exact_form_law.Goals as goal

pub returns : goal.returns
returns c = laws.exact_form_law
