use Rattle.fixed_kernel.proofs.Additions.{AreAdded}
use Rattle.fixed_kernel.proofs.step.add_plan.Given as goal

abbrev pub invariant-loop-j : goal.invariant-loop-j
invariant-loop-j l = AreAdded l.plan l.fn.sums l.sums l.j
