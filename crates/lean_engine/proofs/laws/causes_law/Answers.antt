use Rattle.lean_engine.proofs.CauseLaws.{one_cause, no_cause}
use Rattle.lean_engine.proofs.laws.causes_law.Goals as goal

pub returns : goal.returns
returns c = record { one = one_cause; none = no_cause }
