use Rattle.policy_file.proofs.FieldFacts.{digits_text}
use Rattle.policy_file.proofs.number.value_of.Goals as goal

pub returns-in_default : goal.returns-in_default
returns-in_default c = absurd (c.in_default.ensures.cases.0 (digits_text c.args.digits.now c.requires))
