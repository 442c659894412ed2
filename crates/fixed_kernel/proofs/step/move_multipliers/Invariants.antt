use Rattle.std.proofs.Common.{◌≡◌, ℕ, ◌<◌, ◌≤◌, get_or, pos}
use Rattle.qp_model.specs.machine.Controller.{numbers}
use Rattle.qp_model.specs.machine.Machine.{next_multiplier}
use Rattle.fixed_kernel.proofs.step.move_multipliers.Given as goal

abbrev pub invariant-loop-i : goal.invariant-loop-i
invariant-loop-i l = record {
  moved : (k : ℕ) → k < l.i → get_or l.multipliers k (pos 0) ≡ next_multiplier (numbers l.c) l.state l.plan (get_or l.fn.multipliers k (pos 0)) k;
  others : (k : ℕ) → l.i ≤ k → get_or l.multipliers k (pos 0) ≡ get_or l.fn.multipliers k (pos 0);
}
