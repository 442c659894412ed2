use Rattle.std.proofs.Common.{sym, ◌∙◌}
use Rattle.std.proofs.lemmas.Bool.{false≢true}
use Rattle.qp_model.proofs.range.are_highs.Goals as goal

pub returns-then-are_numerators : goal.returns-then-are_numerators
returns-then-are_numerators c = (λ t. record { numbers = c.are_numerators.ensures.0 c.if-are_numerators.true; box = c.is_ordered.ensures.0 t }, λ h. c.is_ordered.ensures.1 h.box)

pub returns-else-are_numerators : goal.returns-else-are_numerators
returns-else-are_numerators c = (λ t. absurd (false≢true (sym c.if-are_numerators.false ∙ t)), λ h. c.are_numerators.ensures.1 h.numbers)
