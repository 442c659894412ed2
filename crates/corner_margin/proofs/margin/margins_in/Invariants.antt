use Rattle.qp_model.specs.problem.Policy.{plans_of}
use Rattle.corner_margin.proofs.MarginFacts.{IsMarginUpTo}
use Rattle.corner_margin.proofs.margin.margins_in.Given as goal

abbrev pub invariant-loop-c : goal.invariant-loop-c
invariant-loop-c l = IsMarginUpTo l.fine l.design (plans_of l.policy) l.c l.margin
