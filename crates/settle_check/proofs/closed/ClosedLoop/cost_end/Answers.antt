use Rattle.std.proofs.Common.{◌≡◌, inl, inr, ◌≤◌, ◌∙◌, arith, rules, refl, FitsSigned}
use Rattle.std.specs.Int.{w128}
use Rattle.std.proofs.lemmas.Int.{to_z-of_z}
use Rattle.std.proofs.lemmas.Result.{err_from_is_err_and}
use Rattle.integer_algebra.specs.Sums.{at}
use Rattle.settle_check.specs.Course.{plant, states_box, end_size, cost_first}
use Rattle.settle_check.proofs.CourseFacts.{begins, follows, end_size_is, cost_end_is, all_passes, not_within}
use Rattle.settle_check.proofs.closed.ClosedLoop.cost_end.Goals as goal

pub loop-turn-init : goal.loop-turn-init
loop-turn-init c =
    begins c.args.self.now (cost_first (plant c.args.self.now) c.args.upper c.args.k) c.in_ok-row.row.items c.of-added.result.value c.of-added.result.size c.in_ok-row.ensures c.of-added.ensures.value c.of-added.ensures.size

pub turned-requires : goal.turned-requires
turned-requires c = rw c.deref.ensures.value c.loop-turn.invariant.holds.long

pub end-requires-clause-row : goal.end-requires-clause-row
end-requires-clause-row c = rw c.deref-2.ensures.value c.loop-turn.invariant.holds.long

pub returns-in_err-row-2-clause-fault : goal.returns-in_err-row-2-clause-fault
returns-in_err-row-2-clause-fault c =
    let l = c.args.self.now in
    let e = err_from_is_err_and c.from_residual-in_err-row-2.result c.from_residual-in_err-row-2.ensures.1 in
    rw (e.1, e.2) (elim c.in_err-row-2.ensures.wide [
      | inl m ↦ inl m
      | inr w ↦ inr (
        w.0,
        all_passes l (states_box l) (cost_first (plant l) c.args.upper c.args.k) c.loop-turn._turn c.args.turns c.loop-turn.row.items c.loop-turn.added.value c.loop-turn.added.size
            c.loop-turn.invariant c.loop-turn-test.true (rw c.deref.ensures.value at w.1),
      )
    ])

pub loop-turn-preserved : goal.loop-turn-preserved
loop-turn-preserved c =
    follows c.args.self.now (cost_first (plant c.args.self.now) c.args.upper c.args.k) c.loop-turn._turn c.loop-turn.row.items c.in_ok-row-2.field-0-0.items c.loop-turn.added.value
    c.in_ok-row-2.field-0-1.value c.loop-turn.added.size c.in_ok-row-2.field-0-1.size c.loop-turn.invariant (rw c.deref.ensures.value at c.in_ok-row-2.ensures.row)
    (rw c.deref.ensures.value at c.in_ok-row-2.ensures.value) (rw c.deref.ensures.value at c.in_ok-row-2.ensures.size)

pub returns-in_default-clause-fault : goal.returns-in_default-clause-fault
returns-in_default-clause-fault c =
    let l = c.args.self.now in
    let end : c.loop-turn._turn ≤ c.args.turns = c.loop-turn.auto._turn-end in
    let e : c.loop-turn._turn ≡ c.args.turns = omega (arith, end, c.loop-turn-test.false) in
    let f = rw e at c.loop-turn.invariant in
    let size = end_size_is l (cost_first (plant l) c.args.upper c.args.k) (states_box l) c.args.turns c.loop-turn.row.items c.loop-turn.added.value c.loop-turn.added.size f in
    inr (refl, λ room. omega (arith, room, size, not_within (end_size l (states_box l) (at c.loop-turn.row.items) c.loop-turn.added.size) (rw c.deref-2.ensures.value at c.in_default.ensures.room.1)))

pub returns-clause-room : goal.returns-clause-room
returns-clause-room c =
    let l = c.args.self.now in
    let end : c.loop-turn._turn ≤ c.args.turns = c.loop-turn.auto._turn-end in
    let e : c.loop-turn._turn ≡ c.args.turns = omega (arith, end, c.loop-turn-test.false) in
    let f = rw e at c.loop-turn.invariant in
    let size = end_size_is l (cost_first (plant l) c.args.upper c.args.k) (states_box l) c.args.turns c.loop-turn.row.items c.loop-turn.added.value c.loop-turn.added.size f in
    let room = rw c.deref-2.ensures.value at c.in-Some.ensures.room in
    omega (arith, size, room.0 refl)

pub returns-clause-value : goal.returns-clause-value
returns-clause-value c =
    let l = c.args.self.now in
    let end : c.loop-turn._turn ≤ c.args.turns = c.loop-turn.auto._turn-end in
    let e : c.loop-turn._turn ≡ c.args.turns = omega (arith, end, c.loop-turn-test.false) in
    let f = rw e at c.loop-turn.invariant in
    let g : FitsSigned w128 c.in-Some.end = search rules in
    to_z-of_z w128 _ g ∙ (rw c.deref-2.ensures.value at c.in-Some.ensures.value) ∙ cost_end_is l c.args.upper c.args.k c.args.turns c.loop-turn.row.items c.loop-turn.added.value c.loop-turn.added.size f
