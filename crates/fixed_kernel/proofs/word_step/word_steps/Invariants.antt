use Rattle.std.proofs.Common.{◌≡◌}
use Rattle.qp_model.specs.machine.Controller.{numbers}
use Rattle.qp_model.specs.machine.Machine.{after}
use Rattle.fixed_kernel.specs.Raised.{with_raised}
use Rattle.fixed_kernel.specs.Spans.{made_of}
use Rattle.fixed_kernel.proofs.word_step.word_steps.Given as goal

abbrev pub invariant-loop-k : goal.invariant-loop-k
invariant-loop-k l = made_of l.plan l.multipliers l.sums ≡ with_raised (numbers l.c) (after (numbers l.c) l.state l.k)
