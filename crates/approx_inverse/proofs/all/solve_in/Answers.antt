use Rattle.std.proofs.Common.{length, ap, sym, ◌∙◌}
use Rattle.approx_inverse.proofs.WordLaws.{filled}
use Rattle.std.proofs.lemmas.Result.{IfOk-from_err}
use Rattle.approx_inverse.proofs.all.solve_in.Goals as goal

pub matrix_of-requires-clause-solvable : goal.matrix_of-requires-clause-solvable
matrix_of-requires-clause-solvable c = c.requires.solvable

pub matrix_of-requires-clause-len : goal.matrix_of-requires-clause-len
matrix_of-requires-clause-len c = ap length c.deref_mut.ensures.value ∙ c.requires.work.column

pub of-requires : goal.of-requires
of-requires c = c.in_ok-h.ensures.ok.cols ∙ sym c.in_ok-h.ensures.ok.rows

pub solve_from-found-requires-clause-solvable : goal.solve_from-found-requires-clause-solvable
solve_from-found-requires-clause-solvable c = c.requires.solvable

pub solve_from-found-requires-clause-bits : goal.solve_from-found-requires-clause-bits
solve_from-found-requires-clause-bits c = c.requires.bits

pub solve_from-found-requires-clause-matrix : goal.solve_from-found-requires-clause-matrix
solve_from-found-requires-clause-matrix c = c.in_ok-h.ensures.ok

pub solve_from-found-requires-clause-root : goal.solve_from-found-requires-clause-root
solve_from-found-requires-clause-root c = rw c.in_ok-h.ensures.ok.rows at c.in_ok-root.ensures

pub returns-clause-solved : goal.returns-clause-solved
returns-clause-solved c = c.solve_from-found.ensures.solved

pub returns-clause-wide : goal.returns-clause-wide
returns-clause-wide c = c.solve_from-found.ensures.wide

pub solve_from-found-requires-clause-work : goal.solve_from-found-requires-clause-work
solve_from-found-requires-clause-work c = record {
  column = ap length (filled _ _ _ (c.matrix_of.auto.line ∙ c.deref_mut.ensures.len)) ∙ c.matrix_of.auto.line ∙ ap length c.deref_mut.ensures.value ∙ c.requires.work.column;
  guess = c.requires.work.guess;
  rest = c.requires.work.rest;
  live = c.requires.work.live;
  len = c.requires.work.len;
  free = c.requires.work.free;
}

pub returns-in_err-h-clause-solved : goal.returns-in_err-h-clause-solved
returns-in_err-h-clause-solved c = IfOk-from_err c.from_residual.result _ c.from_residual.ensures.0

pub returns-in_err-root-clause-solved : goal.returns-in_err-root-clause-solved
returns-in_err-root-clause-solved c = IfOk-from_err c.from_residual-in_err-root.result _ c.from_residual-in_err-root.ensures.0
