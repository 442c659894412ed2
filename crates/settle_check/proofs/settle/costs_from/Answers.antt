use Rattle.std.proofs.Common.{inl, inr}
use Rattle.std.proofs.lemmas.Result.{err_from_is_err_and}
use Rattle.settle_check.proofs.settle.costs_from.Goals as goal

pub returns-in_err-low-clause-fault : goal.returns-in_err-low-clause-fault
returns-in_err-low-clause-fault c =
    let e = err_from_is_err_and c.from_residual.result c.from_residual.ensures.1 in
    rw (e.1, e.2) (elim c.in_err-low.ensures.fault [
      | inl m ↦ inl m
      | inr w ↦ inr (w.0, λ room. w.1 (λ k o. (room k o).0))
    ])

pub returns-in_err-high-clause-fault : goal.returns-in_err-high-clause-fault
returns-in_err-high-clause-fault c =
    let e = err_from_is_err_and c.from_residual-in_err-high.result c.from_residual-in_err-high.ensures.1 in
    rw (e.1, e.2) (elim c.in_err-high.ensures.fault [
      | inl m ↦ inl m
      | inr w ↦ inr (w.0, λ room. w.1 (λ k o. (room k o).1))
    ])

pub returns-clause-room : goal.returns-clause-room
returns-clause-room c = λ k o. (c.in_ok-low.ensures.room k o, c.in_ok-high.ensures.room k o)

pub returns-clause-value : goal.returns-clause-value
returns-clause-value c = record { low = c.in_ok-low.ensures.value; high = c.in_ok-high.ensures.value }
