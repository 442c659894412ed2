use Rattle.std.proofs.Common.{inl, inr}
use Rattle.std.proofs.lemmas.Result.{err_from_is_err_and}
use Rattle.settle_check.proofs.settle.tube_from.Goals as goal

pub returns-in_err-lows-clause-fault : goal.returns-in_err-lows-clause-fault
returns-in_err-lows-clause-fault c =
    let e = err_from_is_err_and c.from_residual.result c.from_residual.ensures.1 in
    let fault = rw (c.deref.ensures.value, c.deref-2.ensures.value) at c.in_err-lows.ensures.fault in
    rw (e.1, e.2) (elim fault [
      | inl m ↦ inl m
      | inr w ↦ inr (w.0, λ room. w.1 (λ i o. (room i o).0))
    ])

pub returns-in_err-highs-clause-fault : goal.returns-in_err-highs-clause-fault
returns-in_err-highs-clause-fault c =
    let e = err_from_is_err_and c.from_residual-in_err-highs.result c.from_residual-in_err-highs.ensures.1 in
    let fault = rw (c.deref-3.ensures.value, c.deref-4.ensures.value) at c.in_err-highs.ensures.fault in
    rw (e.1, e.2) (elim fault [
      | inl m ↦ inl m
      | inr w ↦ inr (w.0, λ room. w.1 (λ i o. (room i o).1))
    ])

pub returns-clause-room : goal.returns-clause-room
returns-clause-room c =
    let lows = rw (c.deref.ensures.value, c.deref-2.ensures.value) at c.in_ok-lows.ensures.room in
    let highs = rw (c.deref-3.ensures.value, c.deref-4.ensures.value) at c.in_ok-highs.ensures.room in
    λ i o. (lows i o, highs i o)

pub returns-clause-value : goal.returns-clause-value
returns-clause-value c =
    record {
      lows = rw (c.deref.ensures.value, c.deref-2.ensures.value) at c.in_ok-lows.ensures.value;
      highs = rw (c.deref-3.ensures.value, c.deref-4.ensures.value) at c.in_ok-highs.ensures.value;
    }
