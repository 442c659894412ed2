use Rattle.std.proofs.lemmas.Result.{IfOk-from_err}
use Rattle.approx_inverse.proofs.all.solve_form.Goals as goal

pub solve_in-found-requires-clause-solvable : goal.solve_in-found-requires-clause-solvable
solve_in-found-requires-clause-solvable c = c.requires.solvable

pub solve_in-found-requires-clause-bits : goal.solve_in-found-requires-clause-bits
solve_in-found-requires-clause-bits c = c.requires.bits

pub solve_in-found-requires-clause-work : goal.solve_in-found-requires-clause-work
solve_in-found-requires-clause-work c = rw c.rows.ensures.count at c.in_ok-work.ensures

pub returns-clause-solved : goal.returns-clause-solved
returns-clause-solved c = c.solve_in-found.ensures.solved

pub returns-clause-wide : goal.returns-clause-wide
returns-clause-wide c = c.solve_in-found.ensures.wide

pub returns-in_err-work-clause-solved : goal.returns-in_err-work-clause-solved
returns-in_err-work-clause-solved c = IfOk-from_err c.from_residual.result _ c.from_residual.ensures.0
