use Rattle.std.proofs.Common.{arith, rules, refl, FitsSigned}
use Rattle.std.specs.Int.{w128}
use Rattle.std.proofs.lemmas.Int.{to_z-of_z}
use Rattle.settle_check.proofs.tube.test_turn.Goals as goal

pub returns-in-Some-clause-beyond : goal.returns-in-Some-clause-beyond
returns-in-Some-clause-beyond c =
    let f : FitsSigned w128 c.in-Some.bound = search rules in
    record {
      index = c.loop-i.i;
      inside = omega (arith, c.loop-i-test.true, c.loop-i.invariant.end);
      place = refl;
      before = c.loop-i.invariant.inside;
      here = rw (to_z-of_z w128 _ f) c.in-Some.ensures.some;
    }
