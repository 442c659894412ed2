use Rattle.std.proofs.Common.{◌≡◌, ℕ, ◌<◌, ◌≤◌, get_or, pos}
use Rattle.qp_model.specs.machine.Controller.{numbers}
use Rattle.overflow_check.specs.FastMachine.{step_weight, moved_multiplier}
use Rattle.fast_machine.proofs.word_step.word_rows.Given as goal

abbrev pub invariant-loop-i : goal.invariant-loop-i
invariant-loop-i l = record {
  moved : (j : ℕ) → j < l.i → get_or l.multipliers j (pos 0) ≡ moved_multiplier (numbers l.c) l.state l.plan (step_weight l.k) (get_or l.fn.multipliers j (pos 0)) j;
  others : (j : ℕ) → l.i ≤ j → get_or l.multipliers j (pos 0) ≡ get_or l.fn.multipliers j (pos 0);
}
