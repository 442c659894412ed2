use Rattle.std.proofs.Common.{rules, ◌∙◌}
use Rattle.std.specs.Int.{w128}
use Rattle.std.proofs.lemmas.Int.{to_z-of_z}
use mir.Val.{SFits}
use Rattle.design_engine.proofs.GenerationFacts.{half_small, product_fits, product_is, least_is}
use Rattle.design_engine.proofs.generation.error_limit.Goals as goal

pub overflow_mul-r : goal.overflow_mul-r
overflow_mul-r c =
    let f : SFits w128 c.half_target.result = search rules in
    product_fits c.args.r c.half_target.result _ c.ranges.r f c.requires.some c.requires.narrow c.half_target.ensures (half_small c.args.parts.now c.requires.design)

pub returns : goal.returns
returns c =
    let f : SFits w128 c.half_target.result = search rules in
    let g : SFits w128 c.gap_target.result = search rules in
    let k : SFits w128 c.min.result = search rules in
    to_z-of_z w128 _ k ∙ c.min.ensures.value ∙ rw (
      to_z-of_z w128 _ g,
      c.gap_target.ensures,
      product_is c.args.r c.half_target.result _ c.ranges.r f c.requires.some c.requires.narrow c.half_target.ensures (half_small c.args.parts.now c.requires.design),
    )
    (least_is _ _)
