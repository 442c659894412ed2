use Rattle.std.proofs.Common.{rules, FitsSigned}
use Rattle.std.specs.Int.{w128}
use Rattle.std.proofs.lemmas.Int.{to_z-of_z}
use Rattle.qp_model.proofs.CornerFacts.{grid_is}
use Rattle.stay_check.proofs.FaceFacts.{scale_small}
use Rattle.stay_check.proofs.size.next_scale.Goals as goal

pub returns-clause-small : goal.returns-clause-small
returns-clause-small c =
    let a : FitsSigned w128 c.args.parts.now.plant_den = search rules in
    rw (grid_is c.args.parts.now.grid c.requires.grid, c.unsigned_abs.ensures.value, to_z-of_z w128 _ a) (scale_small c.args.parts.now c.requires)
