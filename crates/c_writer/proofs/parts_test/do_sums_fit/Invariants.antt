use Rattle.std.proofs.Common.{ℕ, ◌<◌, ◌^◌}
use Rattle.c_writer.specs.Measured.{sizes_in}
use Rattle.c_writer.proofs.parts_test.do_sums_fit.Given as goal

abbrev pub invariant-loop-j : goal.invariant-loop-j
invariant-loop-j l = (k : ℕ) → k < l.j → (sizes_in l.from).sum k < 2 ^ 63
