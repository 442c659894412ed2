use Rattle.std.proofs.Common.{◌≡◌}
use Rattle.qp_model.specs.problem.Parts.{design_of}
use Rattle.qp_model.specs.problem.Policy.{plans_of}
use Rattle.qp_model.specs.form.Quantities.{greatest}
use Rattle.qp_model.specs.bounds.CornerSizes.{corner_magnitude}
use Rattle.qp_model.proofs.corner_sizes.policy_magnitude.Given as goal

abbrev pub invariant-loop-c : goal.invariant-loop-c
invariant-loop-c l = l.most ≡ greatest l.c (corner_magnitude (design_of l.parts) (plans_of l.policy))
