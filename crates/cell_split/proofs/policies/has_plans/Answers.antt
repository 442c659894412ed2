use Rattle.std.proofs.Common.{map, refl, rules}
use Rattle.std.specs.Option.{option_map}
use Rattle.qp_model.specs.problem.Policy.{plans_of}
use Rattle.cell_split.proofs.PolicyFacts.{none_covered, one_covered, still_none}
use Rattle.cell_split.proofs.policies.has_plans.Goals as goal

pub loop-policy-init : goal.loop-policy-init
loop-policy-init c = none_covered (map (option_map plans_of) c.args.policies.now)

pub returns-then-is_some : goal.returns-then-is_some
returns-then-is_some c =
    ((λ is. one_covered c.args.policies.now c.policy-item.result c.loop-policy.policy-index c.loop-policy-test.true c.policy-item.is (search rules)), (λ some. refl))

pub loop-policy-preserved : goal.loop-policy-preserved
loop-policy-preserved c =
    still_none c.args.policies.now c.policy-item.result c.loop-policy.policy-index c.loop-policy-test.true c.policy-item.is (search rules) c.loop-policy.invariant
