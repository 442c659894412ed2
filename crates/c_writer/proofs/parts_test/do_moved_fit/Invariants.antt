use Rattle.std.proofs.Common.{ℕ, ◌<◌, ◌^◌}
use Rattle.c_writer.specs.Measured.{sizes_in}
use Rattle.c_writer.proofs.parts_test.do_moved_fit.Given as goal

abbrev pub invariant-loop-i : goal.invariant-loop-i
invariant-loop-i l = (k : ℕ) → k < l.i → (sizes_in l.from).moved k < 2 ^ 63
