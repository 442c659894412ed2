use Rattle.std.proofs.Common.{◌≤ℤ◌, ◌<ℤ◌, ◌∙◌, rules, refl, FitsSigned}
use Rattle.std.specs.Int.{w128}
use Rattle.std.proofs.lemmas.Int.{to_z-of_z}
use Rattle.settle_check.proofs.CountedFacts.{square_power, below}
use Rattle.settle_check.proofs.check.test_row.Goals as goal

pub returns-then-most-limit-clause-right : goal.returns-then-most-limit-clause-right
returns-then-most-limit-clause-right c =
    let less : c.in-Some.most.value <ℤ c.power-limit.result.value = search rules in
    record { size = c.in-Some.ensures.room.0 refl; still = below _ _ _ _ less c.in-Some.ensures.value (c.power-limit.ensures.value ∙ square_power c.args.c.now.f) }

pub returns-else-most-limit-clause-fault : goal.returns-else-most-limit-clause-fault
returns-else-most-limit-clause-fault c =
    let a : FitsSigned w128 c.in-Some.most.value = search rules in
    let b : FitsSigned w128 c.power-limit.result.value = search rules in
    let moves : c.power-limit.result.value ≤ℤ c.in-Some.most.value = search rules in
    rw (to_z-of_z w128 _ a, to_z-of_z w128 _ b)
    (record {
      place = refl;
      size = c.in-Some.ensures.room.0 refl;
      number = c.in-Some.ensures.value;
      limit = c.power-limit.ensures.value ∙ square_power c.args.c.now.f;
      moves = moves;
    })
