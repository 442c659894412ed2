use Rattle.std.proofs.Common.{◌≡◌, inl, inr, ◌∙◌, below_more, arith, rules, FitsSigned}
use Rattle.std.specs.Int.{w128}
use Rattle.std.proofs.lemmas.Int.{to_z-of_z}
use Rattle.std.proofs.lemmas.Result.{err_from_is_err_and}
use Rattle.settle_check.specs.Settling.{told_rows}
use Rattle.settle_check.specs.Course.{plant, end_at, costs_of}
use Rattle.settle_check.proofs.CourseFacts.{pushed}
use Rattle.settle_check.proofs.closed.ClosedLoop.costs.Goals as goal

pub returns-in_err-end-clause-fault : goal.returns-in_err-end-clause-fault
returns-in_err-end-clause-fault c =
    let e = err_from_is_err_and c.from_residual.result c.from_residual.ensures.1 in
    rw (e.1, e.2) (elim c.in_err-end.ensures.fault [
      | inl m ↦ inl m
      | inr w ↦ inr (w.0, λ room. w.1 (room c.loop-k.k (omega (arith, c.loop-k-test.true, c.loop-k.invariant.end))))
    ])

pub loop-k-preserved : goal.loop-k-preserved
loop-k-preserved c =
    let f : FitsSigned w128 c.in_ok-end.end = search rules in
    record {
      end = c.loop-k.invariant.end;
      ends = pushed _ _ _ c.loop-k.k (end_at c.args.upper (costs_of c.args.self.now c.args.turns)) c.in_ok-push.ensures.items (to_z-of_z w128 _ f ∙ c.in_ok-end.ensures.value) c.loop-k.invariant.ends;
      room = below_more _ _ c.loop-k.invariant.room c.in_ok-end.ensures.room;
    }

pub returns-clause-value : goal.returns-clause-value
returns-clause-value c =
    let e : c.loop-k.k ≡ told_rows (plant c.args.self.now) c.args.turns = omega (arith, c.loop-k.invariant.end, c.loop-k.auto.k-end, c.loop-k-test.false) in
    rw e at c.loop-k.invariant.ends

pub returns-clause-room : goal.returns-clause-room
returns-clause-room c =
    let e : c.loop-k.k ≡ told_rows (plant c.args.self.now) c.args.turns = omega (arith, c.loop-k.invariant.end, c.loop-k.auto.k-end, c.loop-k-test.false) in
    rw e at c.loop-k.invariant.room
