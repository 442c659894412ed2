use Rattle.std.proofs.Common.{◌≡◌, inl, inr, ◌+◌, ◌∙◌, below_more, arith, sym}
use Rattle.std.proofs.lemmas.Result.{err_from_is_err_and}
use Rattle.settle_check.specs.Still.{box_of}
use Rattle.settle_check.specs.Course.{end_at, tube_of}
use Rattle.settle_check.proofs.CourseFacts.{row_pushed}
use Rattle.settle_check.proofs.closed.ClosedLoop.tube.Goals as goal

pub push_row-requires : goal.push_row-requires
push_row-requires c = rw c.deref.ensures.value (c.in_ok-ends.ensures.value.long ∙ sym c.loop-i.invariant.entries.cols)

pub returns-in_err-ends-clause-fault : goal.returns-in_err-ends-clause-fault
returns-in_err-ends-clause-fault c =
    let e = err_from_is_err_and c.from_residual-in_err-ends.result c.from_residual-in_err-ends.ensures.1 in
    rw (e.1, e.2) (elim c.in_err-ends.ensures.fault [
      | inl m ↦ inl m
      | inr w ↦ inr (w.0, λ room. w.1 (room c.loop-i.i (omega (arith, c.loop-i-test.true, c.loop-i.invariant.end))))
    ])

pub loop-i-preserved : goal.loop-i-preserved
loop-i-preserved c =
    record {
      end = c.loop-i.invariant.end;
      entries = row_pushed c.loop-i.tube c.push_row.new.self c.deref.result.now c.loop-i.i (c.args.turns + 1)
          (λ i t. end_at c.args.upper (tube_of c.args.self.now (box_of c.args.low.now c.args.high.now) t) i) c.in_ok-push_row.ensures.ok (rw c.deref.ensures.value c.in_ok-ends.ensures.value) c.loop-i.invariant.entries;
      room = below_more _ _ c.loop-i.invariant.room c.in_ok-ends.ensures.room;
    }

pub returns-clause-value : goal.returns-clause-value
returns-clause-value c =
    let e : c.loop-i.i ≡ c.args.self.now.parts.now.states = omega (arith, c.loop-i.invariant.end, c.loop-i.auto.i-end, c.loop-i-test.false) in
    rw e at c.loop-i.invariant.entries

pub returns-clause-room : goal.returns-clause-room
returns-clause-room c =
    let e : c.loop-i.i ≡ c.args.self.now.parts.now.states = omega (arith, c.loop-i.invariant.end, c.loop-i.auto.i-end, c.loop-i-test.false) in
    rw e at c.loop-i.invariant.room
