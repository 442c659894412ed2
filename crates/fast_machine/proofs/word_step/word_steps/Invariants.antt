use Rattle.std.proofs.Common.{◌≡◌}
use Rattle.qp_model.specs.machine.Controller.{numbers}
use Rattle.overflow_check.specs.FastMachine.{fast_lists, fast_after}
use Rattle.fast_machine.proofs.word_step.word_steps.Given as goal

abbrev pub invariant-loop-k : goal.invariant-loop-k
invariant-loop-k l = fast_lists l.means l.plan l.multipliers l.reached l.sums ≡ fast_after (numbers l.c) l.state l.k
