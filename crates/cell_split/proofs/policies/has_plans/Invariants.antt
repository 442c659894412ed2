use Rattle.std.proofs.Common.{◌≡◌, map}
use Rattle.std.specs.Option.{option_map}
use Rattle.qp_model.specs.problem.Policy.{plans_of}
use Rattle.cell_split.specs.PoliciesText.{covered}
use Rattle.cell_split.proofs.policies.has_plans.Given as goal

abbrev pub invariant-loop-policy : goal.invariant-loop-policy
invariant-loop-policy l = covered (map (option_map plans_of) l.policies) l.policy-index ≡ 0
