use Rattle.std.proofs.Common.{ℕ, ◌<◌}
use Rattle.qp_model.specs.machine.Controller.{numbers}
use Rattle.c_writer.specs.Terms.{IsShortGain}
use Rattle.c_writer.proofs.parts_test.are_gains_short.Given as goal

abbrev pub invariant-loop-i : goal.invariant-loop-i
invariant-loop-i l = (k : ℕ) → k < l.i → IsShortGain (numbers l.from.c.now) l.j k
