use Rattle.std.proofs.Common.{◌<◌, arith}
use Rattle.qp_model.specs.problem.Parts.{design_of}
use Rattle.qp_model.proofs.SizeFacts.{greatest_term}
use Rattle.closed_loop.specs.Looping.{turn_absolute_sum_by}
use Rattle.closed_loop.proofs.size.greatest_turn_sum.Goals as goal

pub returns-in_err-turn_absolute_sum : goal.returns-in_err-turn_absolute_sum
returns-in_err-turn_absolute_sum g c =
    let lt : c.loop-i.i < c.args.design.now.states = omega arith in
    rw c.from_residual.ensures (λ h. c.in_err-turn_absolute_sum.ensures (omega (arith, greatest_term c.loop-i.i c.args.design.now.states (turn_absolute_sum_by (design_of c.args.design.now) (g.M.ControlMachine.looping c.args.machine.now)) lt, h)))
