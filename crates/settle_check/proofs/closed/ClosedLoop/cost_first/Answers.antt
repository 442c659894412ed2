use Rattle.std.proofs.Common.{◌∙◌, rules, FitsSigned}
use Rattle.std.specs.Int.{w128}
use Rattle.std.proofs.lemmas.Int.{to_z-of_z}
use Rattle.settle_check.specs.Course.{plant, cost_first}
use Rattle.settle_check.proofs.CourseFacts.{pushed}
use Rattle.settle_check.proofs.closed.ClosedLoop.cost_first.Goals as goal

pub loop-j-preserved : goal.loop-j-preserved
loop-j-preserved c =
    let f : FitsSigned w128 c.first_number.result = search rules in
    pushed _ _ _ c.loop-j.j (cost_first (plant c.args.self.now) c.args.upper c.args.k) c.in_ok-push.ensures.items (to_z-of_z w128 _ f ∙ c.first_number.ensures) c.loop-j.invariant
