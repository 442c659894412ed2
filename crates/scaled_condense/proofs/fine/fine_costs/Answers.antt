use Rattle.std.proofs.Common.{Err, sym, ap, ◌∙◌, ◌^◌, refl}
use Rattle.std.proofs.lemmas.Result.{err_from_is_err_and}
use Rattle.scaled_condense.proofs.FaultFacts.{same_fault, memory_apart, none_made, same_quantity, above_first}
use Rattle.scaled_condense.proofs.FineFacts.{fine_scale, fine_area}
use Rattle.scaled_condense.proofs.fine.fine_costs.Goals as goal

pub fine_cost_total-requires-clause-design : goal.fine_cost_total-requires-clause-design
fine_cost_total-requires-clause-design c = c.requires.design

pub fine_cost_total-requires-clause-reach : goal.fine_cost_total-requires-clause-reach
fine_cost_total-requires-clause-reach c = c.requires.reach

pub returns-in_default-clause-wide : goal.returns-in_default-clause-wide
returns-in_default-clause-wide c = λ q e. (sym (same_quantity e), above_first _ _ c.in_default.ensures)

pub cost_numbers-requires-clause-scale : goal.cost_numbers-requires-clause-scale
cost_numbers-requires-clause-scale c = fine_scale c.args.parts.now c.args.reach c.requires.design c.requires.reach c.requires.prediction

pub cost_numbers-requires-clause-area : goal.cost_numbers-requires-clause-area
cost_numbers-requires-clause-area c = fine_area c.args.parts.now c.args.reach c.requires.design c.requires.reach c.in-Some.ensures.0

pub returns-in_err-numbers-clause-wide : goal.returns-in_err-numbers-clause-wide
returns-in_err-numbers-clause-wide c = λ q e.
    let given = err_from_is_err_and c.from_residual.result c.from_residual.ensures.1 in
    absurd (memory_apart q (same_fault (given.1 ∙ ap Err given.2) e))

pub returns-in_err-numbers-clause-costs : goal.returns-in_err-numbers-clause-costs
returns-in_err-numbers-clause-costs c = none_made _ (err_from_is_err_and c.from_residual.result c.from_residual.ensures.1).1

pub within_size-requires-clause-scale : goal.within_size-requires-clause-scale
within_size-requires-clause-scale c = fine_scale c.args.parts.now _ c.requires.design refl c.requires.prediction

pub within_size-requires-clause-total : goal.within_size-requires-clause-total
within_size-requires-clause-total c = c.in-Some.ensures.1

pub within_size-requires-clause-fits : goal.within_size-requires-clause-fits
within_size-requires-clause-fits c = c.in-Some.ensures.0

pub within_size-requires-clause-numbers : goal.within_size-requires-clause-numbers
within_size-requires-clause-numbers c = c.in_ok-numbers.ensures

pub returns-clause-costs : goal.returns-clause-costs
returns-clause-costs c = c.within_size.ensures.costs

pub returns-clause-wide : goal.returns-clause-wide
returns-clause-wide c = c.within_size.ensures.wide
