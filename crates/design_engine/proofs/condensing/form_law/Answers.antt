use Rattle.design_engine.proofs.FormLaws as laws
use Rattle.design_engine.proofs.condensing.form_law.Goals as goal

pub returns : goal.returns
returns c = laws.form_law
