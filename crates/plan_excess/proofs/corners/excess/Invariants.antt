use Rattle.std.proofs.Common.{◌≡◌, ◌≤◌, ◌^◌, suc, pos}
use Rattle.qp_model.specs.problem.Parts.{design_of}
use Rattle.qp_model.specs.problem.Policy.{plans_of}
use Rattle.qp_model.specs.form.Quantities.{greatest}
use Rattle.qp_model.specs.bounds.Excess.{corner_excess, at_least_none}
use Rattle.condensed_form.specs.Form.{held}
use Rattle.plan_excess.specs.Slopes.{corner_size}
use Rattle.plan_excess.proofs.corners.excess.Given as goal

abbrev pub invariant-loop-number : goal.invariant-loop-number
invariant-loop-number l = record {
  most : l.most ≡ pos (greatest l.number (λ c. at_least_none (corner_excess (design_of l.design) (held l.condensed) (plans_of l.policy) (plans_of l.reference) (suc c))));
  near : greatest l.number (corner_size (design_of l.design) (held l.condensed) (plans_of l.policy) (plans_of l.reference)) ≤ 2 ^ 126;
}
