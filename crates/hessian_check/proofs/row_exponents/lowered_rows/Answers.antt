use Rattle.qp_model.specs.form.FineSizes.{is_fine}
use Rattle.qp_model.specs.problem.Parts.{design_of}
use Rattle.hessian_check.proofs.row_exponents.lowered_rows.Goals as goal

pub lowered_from-list-requires-clause-cost : goal.lowered_from-list-requires-clause-cost
lowered_from-list-requires-clause-cost c = λ p f. c.in-Ok.ensures.cost (is_fine (design_of p)) p f

pub lowered_from-list-requires-clause-sums : goal.lowered_from-list-requires-clause-sums
lowered_from-list-requires-clause-sums c = c.in_ok-sums.ensures

pub lowered_from-list-requires-clause-form : goal.lowered_from-list-requires-clause-form
lowered_from-list-requires-clause-form c = c.requires.form

pub lowered_from-list-requires-clause-chosen : goal.lowered_from-list-requires-clause-chosen
lowered_from-list-requires-clause-chosen c = c.requires.chosen

pub lowered_from-list-requires-clause-room : goal.lowered_from-list-requires-clause-room
lowered_from-list-requires-clause-room c = c.requires.room

pub returns : goal.returns
returns c = c.lowered_from-list.ensures

pub returns-in-Err : goal.returns-in-Err
returns-in-Err c = λ p f. tt
