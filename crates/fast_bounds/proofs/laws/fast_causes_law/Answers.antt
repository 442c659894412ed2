use Rattle.fast_bounds.proofs.FastCauses.{one_cause, no_cause}
use Rattle.fast_bounds.proofs.FastMargin.{margin_one_cause, margin_no_cause}
use Rattle.fast_bounds.proofs.laws.fast_causes_law.Goals as goal

pub returns : goal.returns
returns c = record { one = one_cause; none = no_cause; one_by_margin = margin_one_cause; none_by_margin = margin_no_cause }
