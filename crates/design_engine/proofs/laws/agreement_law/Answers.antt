use Rattle.design_engine.proofs.AgreementLaws.{agreement}
use Rattle.design_engine.proofs.laws.agreement_law.Goals as goal

pub returns : goal.returns
returns c = agreement
