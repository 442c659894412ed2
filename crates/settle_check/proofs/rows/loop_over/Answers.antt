use Rattle.std.proofs.Common.{◌^◌, ◌∙◌, arith, rules, FitsSigned}
use Rattle.std.specs.Int.{w128}
use Rattle.std.proofs.lemmas.Int.{to_z-of_z}
use Rattle.settle_check.proofs.CountedFacts.{scaled_fits, scaled_is, over_positive, over_small}
use Rattle.settle_check.proofs.rows.loop_over.Goals as goal

pub scaled-requires : goal.scaled-requires
scaled-requires c =
    let a : FitsSigned w128 c.args.parts.now.plant_den = search rules in
    let f = c.requires.sized.fraction_bits in
    record { small = omega (arith, f); fits = rw (to_z-of_z w128 _ a) (scaled_fits c.args.parts.now.plant_den c.args.c.now.f c.requires.design.plant_den (omega (arith, f))) }

pub returns-clause-value : goal.returns-clause-value
returns-clause-value c =
    let a : FitsSigned w128 c.args.parts.now.plant_den = search rules in
    let r : FitsSigned w128 c.scaled.result = search rules in
    to_z-of_z w128 _ r ∙ (rw (to_z-of_z w128 _ a) at c.scaled.ensures) ∙ scaled_is c.args.parts.now.plant_den (2 ^ c.args.c.now.f) c.requires.design.plant_den

pub returns-clause-positive : goal.returns-clause-positive
returns-clause-positive c = over_positive c.args.parts.now.plant_den c.args.c.now.f c.requires.design.plant_den

pub returns-clause-small : goal.returns-clause-small
returns-clause-small c = over_small c.args.parts.now.plant_den c.args.c.now.f c.requires.design.plant_den (omega (arith, c.requires.sized.fraction_bits))
