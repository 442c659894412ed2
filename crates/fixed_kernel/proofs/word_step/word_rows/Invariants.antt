use Rattle.qp_model.specs.machine.Controller.{numbers}
use Rattle.fixed_kernel.proofs.RowMoves.{AreMoved}
use Rattle.fixed_kernel.proofs.word_step.word_rows.Given as goal

abbrev pub invariant-loop-i : goal.invariant-loop-i
invariant-loop-i l = AreMoved (numbers l.c) l.state l.plan l.fn.multipliers l.multipliers l.i
