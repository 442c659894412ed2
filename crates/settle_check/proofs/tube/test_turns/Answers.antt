use Rattle.std.proofs.Common.{◌∙◌, below_more, arith, sym}
use Rattle.settle_check.proofs.TubeFacts.{goal_long, goal_inside}
use Rattle.settle_check.specs.Tubes.{tube_at}
use Rattle.settle_check.proofs.tube.test_turns.Goals as goal

pub test_turn-requires-clause-tube : goal.test_turn-requires-clause-tube
test_turn-requires-clause-tube c =
    rw (c.goal_at-goal.ensures, (goal_long _ c.args.certificate.now c.args.turns c.loop-turn.turn c.requires.certificate).low) c.requires.tube

pub test_turn-requires-clause-goal : goal.test_turn-requires-clause-goal
test_turn-requires-clause-goal c =
    let l = goal_long _ c.args.certificate.now c.args.turns c.loop-turn.turn c.requires.certificate in
    rw c.goal_at-goal.ensures (l.high ∙ sym l.low)

pub test_turn-requires-clause-few : goal.test_turn-requires-clause-few
test_turn-requires-clause-few c =
    rw (c.goal_at-goal.ensures, (goal_long _ c.args.certificate.now c.args.turns c.loop-turn.turn c.requires.certificate).low) c.requires.few

pub test_turn-requires-clause-turn : goal.test_turn-requires-clause-turn
test_turn-requires-clause-turn c = omega (arith, c.loop-turn-test.true, c.loop-turn.invariant.end, c.requires.tube.low_cols)

pub loop-turn-preserved : goal.loop-turn-preserved
loop-turn-preserved c =
    record {
      end = c.loop-turn.invariant.end;
      inside = below_more _ _ c.loop-turn.invariant.inside
          (goal_inside _ c.args.certificate.now c.args.turns c.loop-turn.turn c.goal_at-goal.result.now (tube_at c.args.tube.now c.loop-turn.turn) c.requires.certificate c.goal_at-goal.ensures c.in_default.ensures.inside);
    }

pub returns-clause-inside : goal.returns-clause-inside
returns-clause-inside c = λ t o. c.loop-turn.invariant.inside t (omega (arith, o, c.loop-turn-test.false, c.loop-turn.invariant.end, c.requires.tube.low_cols))
