use Rattle.std.proofs.Common.{◌≡◌, ◌*◌, ◌^◌, max}
use Rattle.integer_algebra.specs.Division.{ceil_div}
use Rattle.qp_model.specs.problem.Parts.{design_of}
use Rattle.qp_model.specs.problem.Policy.{plans_of}
use Rattle.qp_model.specs.form.Quantities.{greatest}
use Rattle.qp_model.specs.bounds.CornerSizes.{box_magnitude, plan_reach}
use Rattle.corner_margin.proofs.sizes.first_reach.Given as goal

abbrev pub invariant-loop-c : goal.invariant-loop-c
invariant-loop-c l = l.most ≡ max (2 ^ 40) (max (ceil_div (2 ^ 40 * box_magnitude (design_of l.parts)) (2 ^ l.parts.grid)) (greatest l.c (plan_reach (design_of l.parts) (plans_of l.policy))))
