use Rattle.std.proofs.Common.{◌≡◌, inl, inr, ◌+◌, ◌+ℤ◌, ℕ, ℤ, ◌∙◌, arith, refl, ap}
use Rattle.std.proofs.lemmas.Result.{err_from_is_err_and}
use Rattle.integer_algebra.specs.Sums.{at}
use Rattle.settle_check.specs.Course.{next_row, adds, adds_size}
use Rattle.settle_check.proofs.CourseFacts.{turned_adds, turned_size, wide_adds, not_within}
use Rattle.settle_check.proofs.closed.ClosedLoop.turned.Goals as goal

pub returns-in_err-next-clause-wide : goal.returns-in_err-next-clause-wide
returns-in_err-next-clause-wide c =
    let e = err_from_is_err_and c.from_residual.result c.from_residual.ensures.1 in
    rw (e.1, e.2) (elim c.in_err-next.ensures.wide [
      | inl m ↦ inl m
      | inr w ↦ inr (w.0, omega (arith, wide_adds c.args.self.now c.args.row.now w.1))
    ])

pub returns-in_default-clause-wide : goal.returns-in_default-clause-wide
returns-in_default-clause-wide c =
    let l = c.args.self.now in
    let same : adds_size l (at c.args.row.now) (at c.deref.result.now) ≡ adds_size l (at c.args.row.now) (next_row l (at c.args.row.now)) =
    rw c.deref.ensures.value (turned_size l c.args.row.now c.in_ok-next.next.items c.in_ok-next.ensures.value) in
    inr (refl, omega (arith, same, not_within (adds_size l (at c.args.row.now) (at c.deref.result.now)) c.in_default.ensures.room.1))

pub returns-in_default-plus-clause-wide : goal.returns-in_default-plus-clause-wide
returns-in_default-plus-clause-wide c =
    let l = c.args.self.now in
    let same : adds_size l (at c.args.row.now) (at c.deref.result.now) ≡ adds_size l (at c.args.row.now) (next_row l (at c.args.row.now)) =
    rw c.deref.ensures.value (turned_size l c.args.row.now c.in_ok-next.next.items c.in_ok-next.ensures.value) in
    inr (refl, omega (arith, same, c.in-Some.ensures.size, not_within (c.args.added.size + c.in-Some.more.size) c.in_default-plus.ensures.room.1))

pub returns-clause-value : goal.returns-clause-value
returns-clause-value c =
    let l = c.args.self.now in
    let same : adds l (at c.args.row.now) (at c.deref.result.now) ≡ adds l (at c.args.row.now) (next_row l (at c.args.row.now)) =
    rw c.deref.ensures.value (turned_adds l c.args.row.now c.in_ok-next.next.items c.in_ok-next.ensures.value) in
    c.in-Some-plus.ensures.value ∙ ap (λ (z : ℤ). c.args.added.value +ℤ z) (c.in-Some.ensures.value ∙ same)

pub returns-clause-size : goal.returns-clause-size
returns-clause-size c =
    let l = c.args.self.now in
    let same : adds_size l (at c.args.row.now) (at c.deref.result.now) ≡ adds_size l (at c.args.row.now) (next_row l (at c.args.row.now)) =
    rw c.deref.ensures.value (turned_size l c.args.row.now c.in_ok-next.next.items c.in_ok-next.ensures.value) in
    c.in-Some-plus.ensures.size ∙ ap (λ (n : ℕ). c.args.added.size + n) (c.in-Some.ensures.size ∙ same)
