use Rattle.std.proofs.Common.{ℕ, ◌<◌, length}
use Rattle.qp_model.specs.machine.Controller.{numbers}
use Rattle.c_writer.specs.Terms.{IsShortFactor}
use Rattle.c_writer.proofs.parts_test.are_rows_short.Given as goal

abbrev pub invariant-loop-i : goal.invariant-loop-i
invariant-loop-i l = (k : ℕ) → k < l.i → (j : ℕ) → j < length (numbers l.from.c.now).offsets → IsShortFactor (numbers l.from.c.now) k j
