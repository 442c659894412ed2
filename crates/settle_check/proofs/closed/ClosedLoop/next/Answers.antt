use Rattle.std.proofs.Common.{◌∙◌, rules, FitsSigned}
use Rattle.std.specs.Int.{w128}
use Rattle.std.proofs.lemmas.Int.{to_z-of_z}
use Rattle.integer_algebra.specs.Sums.{at}
use Rattle.settle_check.specs.Course.{next_row}
use Rattle.settle_check.proofs.CourseFacts.{pushed}
use Rattle.settle_check.proofs.closed.ClosedLoop.next.Goals as goal

pub loop-k-preserved : goal.loop-k-preserved
loop-k-preserved c =
    let f : FitsSigned w128 c.in-Some.number = search rules in
    pushed _ _ _ c.loop-k.k (next_row c.args.self.now (at c.args.row.now)) c.in_ok-push.ensures.items (to_z-of_z w128 _ f ∙ c.in-Some.ensures.value) c.loop-k.invariant
