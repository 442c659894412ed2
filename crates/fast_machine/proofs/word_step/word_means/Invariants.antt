use Rattle.std.proofs.Common.{◌≡◌, ℕ, ◌<◌, ◌^◌, ◌*ℤ◌, get_or, pos}
use Rattle.qp_model.specs.machine.Controller.{numbers}
use Rattle.qp_model.specs.machine.Machine.{lowering_of}
use Rattle.overflow_check.specs.FastMachine.{mean_at}
use Rattle.fast_machine.proofs.word_step.word_means.Given as goal

abbrev pub invariant-loop-i : goal.invariant-loop-i
invariant-loop-i l = (j : ℕ) → j < l.i → get_or l.means j (pos 0) ≡ mean_at l.k l.multipliers l.reached j *ℤ pos (2 ^ lowering_of (numbers l.c) j)
