use Rattle.std.proofs.Common.{◌≡◌, ◌∙◌, to_z, of_z, arith, rules, FitsSigned}
use Rattle.std.specs.Int.{w128}
use Rattle.std.proofs.lemmas.Int.{to_z-of_z}
use Rattle.settle_check.specs.Tubes.{tube_at}
use Rattle.settle_check.proofs.TubeFacts.{lower}
use Rattle.settle_check.proofs.settle.least.Goals as goal

pub loop-turn-preserved : goal.loop-turn-preserved
loop-turn-preserved c =
    let f : FitsSigned w128 c.min-least.result = search rules in
    let g : FitsSigned w128 c.at.result = search rules in
    record {
      from = omega arith;
      hull = to_z-of_z w128 _ f ∙ lower (tube_at c.args.tube.now) c.args.i c.loop-turn.turn (to_z w128 c.loop-turn.least-bits) (to_z w128 (of_z w128 c.at.result)) c.min-least.result
          c.loop-turn.invariant.from c.loop-turn.invariant.hull (to_z-of_z w128 _ g ∙ c.at.ensures) c.min-least.ensures.value;
    }

pub returns : goal.returns
returns c =
    let e : c.loop-turn.turn ≡ c.args.turns = omega (arith, c.loop-turn.auto.turn-end c.requires.some, c.loop-turn-test.false) in
    rw e at c.loop-turn.invariant.hull
