use Rattle.std.proofs.Common.{◌≡◌, inl, inr, ◌+◌, ◌<◌, ◌≤◌, ◌∙◌, suc, below_more, arith, rules, refl, FitsSigned}
use Rattle.std.specs.Int.{w128}
use Rattle.std.proofs.lemmas.Int.{to_z-of_z}
use Rattle.std.proofs.lemmas.Result.{err_from_is_err_and}
use Rattle.integer_algebra.specs.Sums.{at}
use Rattle.settle_check.specs.Still.{box_of}
use Rattle.settle_check.specs.TurnSize.{course_size}
use Rattle.settle_check.specs.Course.{plant, machine, states_box, shifts_box, end_at, end_size, end_row, tube_of}
use Rattle.settle_check.proofs.CourseFacts.{begins, follows, next_size_is, end_is, passes, pushed, first_pushed, not_within}
use Rattle.settle_check.proofs.closed.ClosedLoop.ends.Goals as goal

pub loop-turn-init : goal.loop-turn-init
loop-turn-init c =
    let first = end_row c.args.upper c.args.i in
    let f : FitsSigned w128 c.end_at.result = search rules in
    record {
      followed = begins c.args.self.now first c.in_ok-row.row.items c.of-added.result.value c.of-added.result.size c.in_ok-row.ensures c.of-added.ensures.value c.of-added.ensures.size;
      ends = first_pushed c.new-ends.result.items _ _ (λ t. end_at c.args.upper (tube_of c.args.self.now (box_of c.args.low.now c.args.high.now) t) c.args.i) c.new-ends.ensures.items c.in_ok-push.ensures.items
          (to_z-of_z w128 _ f ∙ c.end_at.ensures);
      room = λ t o. absurd (omega arith);
    }

pub turned-requires : goal.turned-requires
turned-requires c = rw c.deref.ensures.value c.loop-turn.invariant.followed.holds.long

pub end-requires-clause-row : goal.end-requires-clause-row
end-requires-clause-row c = rw c.deref-in-loop-turn.ensures.value c.in_ok-row-2.ensures.row.long

pub returns-in_err-row-2-clause-fault : goal.returns-in_err-row-2-clause-fault
returns-in_err-row-2-clause-fault c =
    let e = err_from_is_err_and c.from_residual-in_err-row-2.result c.from_residual-in_err-row-2.ensures.1 in
    rw (e.1, e.2) (elim c.in_err-row-2.ensures.wide [
      | inl m ↦ inl m
      | inr w ↦ inr (
        w.0,
        passes c.args.self.now (end_row c.args.upper c.args.i) (box_of c.args.low.now c.args.high.now) c.loop-turn._turn c.args.turns c.loop-turn.row.items c.loop-turn.added.value c.loop-turn.added.size
            c.loop-turn.invariant.followed c.loop-turn-test.true (rw c.deref.ensures.value at w.1),
      )
    ])

pub returns-in_default-clause-fault : goal.returns-in_default-clause-fault
returns-in_default-clause-fault c =
    let l = c.args.self.now in
    let first = end_row c.args.upper c.args.i in
    let from = box_of c.args.low.now c.args.high.now in
    let k = c.loop-turn._turn in
    let o : k < c.args.turns = c.loop-turn-test.true in
    let f = follows l first k c.loop-turn.row.items c.in_ok-row-2.field-0-0.items c.loop-turn.added.value c.in_ok-row-2.field-0-1.value c.loop-turn.added.size c.in_ok-row-2.field-0-1.size
    c.loop-turn.invariant.followed (rw c.deref.ensures.value at c.in_ok-row-2.ensures.row) (rw c.deref.ensures.value at c.in_ok-row-2.ensures.value) (rw c.deref.ensures.value at c.in_ok-row-2.ensures.size) in
    let size : end_size l from (at c.in_ok-row-2.field-0-0.items) c.in_ok-row-2.field-0-1.size ≡ course_size (plant l) (machine l) (states_box l) (shifts_box l) from first (suc k) =
    next_size_is l first from k c.in_ok-row-2.field-0-0.items c.in_ok-row-2.field-0-1.value c.in_ok-row-2.field-0-1.size f in
    inr (refl, λ room. omega (arith, room k o, size, not_within (end_size l from (at c.in_ok-row-2.field-0-0.items) c.in_ok-row-2.field-0-1.size) (rw c.deref-in-loop-turn.ensures.value at c.in_default.ensures.room.1)))

pub loop-turn-preserved : goal.loop-turn-preserved
loop-turn-preserved c =
    let l = c.args.self.now in
    let first = end_row c.args.upper c.args.i in
    let from = box_of c.args.low.now c.args.high.now in
    let k = c.loop-turn._turn in
    let o : k < c.args.turns = c.loop-turn-test.true in
    let f = follows l first k c.loop-turn.row.items c.in_ok-row-2.field-0-0.items c.loop-turn.added.value c.in_ok-row-2.field-0-1.value c.loop-turn.added.size c.in_ok-row-2.field-0-1.size
    c.loop-turn.invariant.followed (rw c.deref.ensures.value at c.in_ok-row-2.ensures.row) (rw c.deref.ensures.value at c.in_ok-row-2.ensures.value) (rw c.deref.ensures.value at c.in_ok-row-2.ensures.size) in
    let size : end_size l from (at c.in_ok-row-2.field-0-0.items) c.in_ok-row-2.field-0-1.size ≡ course_size (plant l) (machine l) (states_box l) (shifts_box l) from first (suc k) =
    next_size_is l first from k c.in_ok-row-2.field-0-0.items c.in_ok-row-2.field-0-1.value c.in_ok-row-2.field-0-1.size f in
    let g : FitsSigned w128 c.in-Some.end = search rules in
    let room = rw c.deref-in-loop-turn.ensures.value at c.in-Some.ensures.room in
    let value : c.in-Some.end ≡ end_at c.args.upper (tube_of l from (k + 1)) c.args.i =
    (rw c.deref-in-loop-turn.ensures.value at c.in-Some.ensures.value) ∙ end_is l from c.args.upper c.args.i k c.in_ok-row-2.field-0-0.items c.in_ok-row-2.field-0-1.value c.in_ok-row-2.field-0-1.size f in
    record {
      followed = f;
      ends = pushed _ _ _ (k + 1) (λ t. end_at c.args.upper (tube_of l from t) c.args.i) c.in_ok-push-2.ensures.items (to_z-of_z w128 _ g ∙ value) c.loop-turn.invariant.ends;
      room = below_more _ _ c.loop-turn.invariant.room (omega (arith, size, room.0 refl));
    }

pub returns-clause-value : goal.returns-clause-value
returns-clause-value c =
    let end : c.loop-turn._turn ≤ c.args.turns = c.loop-turn.auto._turn-end in
    let e : c.loop-turn._turn ≡ c.args.turns = omega (arith, end, c.loop-turn-test.false) in
    rw e at c.loop-turn.invariant.ends

pub returns-clause-room : goal.returns-clause-room
returns-clause-room c =
    let end : c.loop-turn._turn ≤ c.args.turns = c.loop-turn.auto._turn-end in
    let e : c.loop-turn._turn ≡ c.args.turns = omega (arith, end, c.loop-turn-test.false) in
    rw e at c.loop-turn.invariant.room
