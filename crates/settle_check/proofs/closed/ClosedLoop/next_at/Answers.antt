use Rattle.std.proofs.Common.{◌∙◌, arith, rules, FitsSigned}
use Rattle.std.specs.Int.{w128}
use Rattle.std.proofs.lemmas.Int.{ints, to_z-of_z}
use Rattle.settle_check.proofs.closed.ClosedLoop.next_at.Goals as goal

pub round_div-requires : goal.round_div-requires
round_div-requires c =
    let f : FitsSigned w128 c.loop_over.result = search rules in
    rw (to_z-of_z w128 _ f, c.loop_over.ensures.value) (omega (arith, ints, c.loop_over.ensures.positive))

pub returns-in_err-through-clause-room : goal.returns-in_err-through-clause-room
returns-in_err-through-clause-room c = rw c.from_residual.ensures (λ s. cc, λ h. c.in_err-through.ensures.room.1 h)

pub returns-clause-value : goal.returns-clause-value
returns-clause-value c =
    let f : FitsSigned w128 c.loop_over.result = search rules in
    let g : FitsSigned w128 c.in_ok-through.through.value = search rules in
    let h : FitsSigned w128 c.round_div.result = search rules in
    to_z-of_z w128 _ h ∙ (rw (to_z-of_z w128 _ g, to_z-of_z w128 _ f, c.in_ok-through.ensures.value, c.loop_over.ensures.value) at c.round_div.ensures)
