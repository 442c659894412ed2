use Rattle.std.proofs.Common.{◌≡◌, ◌-◌, ◌∙◌, length, arith, rules, FitsSigned}
use Rattle.std.specs.Int.{w128}
use Rattle.std.proofs.lemmas.Int.{to_z-of_z}
use Rattle.settle_check.specs.Settling.{hull}
use Rattle.settle_check.specs.Tubes.{tube_at}
use Rattle.settle_check.proofs.CourseFacts.{pushed}
use Rattle.settle_check.proofs.settle.hull_of.Goals as goal

pub loop-i-preserved : goal.loop-i-preserved
loop-i-preserved c =
    let f : FitsSigned w128 c.least.result = search rules in
    let g : FitsSigned w128 c.greatest.result = search rules in
    record {
      end = c.loop-i.invariant.end;
      low = pushed _ _ _ c.loop-i.i (hull (tube_at c.args.tube.now) (c.args.turns - 1)).low c.in_ok-push.ensures.items (to_z-of_z w128 _ f ∙ c.least.ensures) c.loop-i.invariant.low;
      high = pushed _ _ _ c.loop-i.i (hull (tube_at c.args.tube.now) (c.args.turns - 1)).high c.in_ok-push-2.ensures.items (to_z-of_z w128 _ g ∙ c.greatest.ensures) c.loop-i.invariant.high;
    }

pub returns : goal.returns
returns c =
    let e : c.loop-i.i ≡ length c.args.tube.now.lows.rows = omega (arith, c.loop-i.invariant.end, c.loop-i.auto.i-end, c.loop-i-test.false) in
    record { low = rw e at c.loop-i.invariant.low; high = rw e at c.loop-i.invariant.high }
