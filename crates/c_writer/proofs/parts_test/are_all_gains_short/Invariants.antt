use Rattle.std.proofs.Common.{ℕ, ◌<◌, length}
use Rattle.qp_model.specs.machine.Controller.{numbers}
use Rattle.c_writer.specs.Terms.{IsShortGain}
use Rattle.c_writer.proofs.parts_test.are_all_gains_short.Given as goal

abbrev pub invariant-loop-j : goal.invariant-loop-j
invariant-loop-j l = (k : ℕ) → k < l.j → (i : ℕ) → i < length (numbers l.from.c.now).bounds → IsShortGain (numbers l.from.c.now) k i
