use Rattle.std.proofs.Common.{sym, ◌∙◌}
use Rattle.std.proofs.lemmas.Bool.{false≢true}
use Rattle.qp_model.proofs.range.are_costs.Goals as goal

pub returns-then-has_numerators : goal.returns-then-has_numerators
returns-then-has_numerators c = (λ t. record { numbers = c.has_numerators.ensures.0 c.if-has_numerators.true; weights = c.has_no_negative.ensures.0 t }, λ h. c.has_no_negative.ensures.1 h.weights)

pub returns-else-has_numerators : goal.returns-else-has_numerators
returns-else-has_numerators c = (λ t. absurd (false≢true (sym c.if-has_numerators.false ∙ t)), λ h. c.has_numerators.ensures.1 h.numbers)
