use Rattle.std.proofs.Common.{◌≡◌, ℕ, ◌<◌, get_or, pos}
use Rattle.qp_model.specs.machine.Controller.{numbers}
use Rattle.qp_model.specs.machine.Machine.{plan_entry}
use Rattle.fast_machine.proofs.step.make_plan.Given as goal

abbrev pub invariant-loop-j : goal.invariant-loop-j
invariant-loop-j l = (k : ℕ) → k < l.j → get_or l.plan k (pos 0) ≡ plan_entry (numbers l.c) l.state l.means k
