use Rattle.std.proofs.Common.{◌≡◌, ◌^◌, arith, refl, ◌∙◌}
use Rattle.qp_model.specs.problem.Parts.{design_of}
use Rattle.qp_model.specs.problem.Policy.{plans_of}
use Rattle.qp_model.specs.bounds.CornerSizes.{corner_magnitude}
use Rattle.qp_model.proofs.SizeFacts.{greatest_next}
use Rattle.qp_model.proofs.corner_sizes.policy_magnitude.Goals as goal

pub loop-c-init : goal.loop-c-init
loop-c-init c = refl

pub corner_magnitude-requires-clause-corner : goal.corner_magnitude-requires-clause-corner
corner_magnitude-requires-clause-corner c = omega (arith, c.loop-c-test.true, c.rows-c-end.ensures.count, c.requires.plans.rows)

pub loop-c-preserved : goal.loop-c-preserved
loop-c-preserved c = greatest_next c.loop-c.c (corner_magnitude (design_of c.args.parts.now) (plans_of c.args.policy.now)) c.loop-c.most c.max-most.result c.corner_magnitude.result
    c.loop-c.invariant c.corner_magnitude.ensures c.max-most.ensures

pub returns : goal.returns
returns c =
    let all : c.loop-c.c ≡ 2 ^ c.args.parts.now.states = omega (arith, c.loop-c-test.false, c.rows-c-end.ensures.count, c.requires.plans.rows) in
    c.loop-c.invariant ∙ rw all refl
