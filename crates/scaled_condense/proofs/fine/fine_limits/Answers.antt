use Rattle.std.proofs.Common.{Err, lt_of_not-le, sym, ap, ◌∙◌}
use Rattle.std.proofs.lemmas.Result.{err_from_is_err_and}
use Rattle.scaled_condense.proofs.FaultFacts.{same_fault, memory_apart, made_apart, same_quantity, none_made}
use Rattle.scaled_condense.proofs.FineFacts.{fine_scale, limit_room}
use Rattle.scaled_condense.proofs.fine.fine_limits.Goals as goal

pub limit_numbers-requires-clause-scale : goal.limit_numbers-requires-clause-scale
limit_numbers-requires-clause-scale c = fine_scale c.args.parts.now c.args.reach c.requires.design c.requires.reach c.requires.prediction

pub limit_numbers-requires-clause-fits : goal.limit_numbers-requires-clause-fits
limit_numbers-requires-clause-fits c = limit_room c.args.parts.now c.args.reach c.requires.design c.requires.reach c.in-Some.ensures.0

pub returns-in_err-numbers-clause-wide : goal.returns-in_err-numbers-clause-wide
returns-in_err-numbers-clause-wide c = λ q e.
    let given = err_from_is_err_and c.from_residual.result c.from_residual.ensures.1 in
    absurd (memory_apart q (same_fault (given.1 ∙ ap Err given.2) e))

pub returns-in_err-numbers-clause-limits : goal.returns-in_err-numbers-clause-limits
returns-in_err-numbers-clause-limits c = none_made _ (err_from_is_err_and c.from_residual.result c.from_residual.ensures.1).1

pub returns-clause-limits : goal.returns-clause-limits
returns-clause-limits c = record { numbers = c.in_ok-numbers.ensures; quantity = c.in-Some.ensures.1; room = c.in-Some.ensures.0 }

pub returns-clause-wide : goal.returns-clause-wide
returns-clause-wide c = λ q e. absurd (made_apart e)

pub returns-in_default-clause-wide : goal.returns-in_default-clause-wide
returns-in_default-clause-wide c = λ q e. (sym (same_quantity e), lt_of_not-le c.in_default.ensures)

pub fine_rows_size-requires-clause-design : goal.fine_rows_size-requires-clause-design
fine_rows_size-requires-clause-design c = c.requires.design

pub fine_rows_size-requires-clause-reach : goal.fine_rows_size-requires-clause-reach
fine_rows_size-requires-clause-reach c = c.requires.reach
