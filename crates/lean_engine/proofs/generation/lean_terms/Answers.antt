use Rattle.std.proofs.Common.{◌≡◌, ℤ, pos, ◌≤ℤ◌, ℕ, ◌≤◌, unsigned_abs, rules, arith, ◌∙◌}
use Rattle.std.specs.Int.{w128}
use Rattle.std.proofs.lemmas.Int.{ints, to_z-of_z}
use mir.Val.{SFits}
use Rattle.design_engine.specs.Targets.{targets_of}
use Rattle.design_engine.proofs.GenerationFacts.{product_fits, product_is, least_is}
use Rattle.lean_engine.proofs.LeanFacts.{terms_same, rest_small, bound_range}
use Rattle.lean_engine.proofs.generation.lean_terms.Goals as goal

pub overflow_mul-r : goal.overflow_mul-r
overflow_mul-r c =
    let f : SFits w128 c.rest_target.result = search rules in
    let range = bound_range (targets_of c.args.parts.now) (unsigned_abs c.args.units) (unsigned_abs c.args.excess) c.args.r c.requires.bound c.requires.room in
    product_fits c.args.r c.rest_target.result _ c.ranges.r f range.0 range.1 c.rest_target.ensures (rest_small c.args.parts.now c.requires.design)

pub returns : goal.returns
returns c =
    let s : SFits w128 c.step_target.result = search rules in
    let f : SFits w128 c.rest_target.result = search rules in
    let g : SFits w128 c.gap_target.result = search rules in
    let m : SFits w128 c.min.result = search rules in
    let v : SFits w128 c.violation_target.result = search rules in
    let range = bound_range (targets_of c.args.parts.now) (unsigned_abs c.args.units) (unsigned_abs c.args.excess) c.args.r c.requires.bound c.requires.room in
    terms_same (targets_of c.args.parts.now) _ _ _ _ _ _ _ _ (to_z-of_z w128 _ c.ranges.r ∙ c.requires.bound) (to_z-of_z w128 _ s ∙ c.step_target.ensures)
    (to_z-of_z w128 _ m ∙ c.min.ensures.value ∙ rw (
      to_z-of_z w128 _ g,
      c.gap_target.ensures,
      product_is c.args.r c.rest_target.result _ c.ranges.r f range.0 range.1 c.rest_target.ensures (rest_small c.args.parts.now c.requires.design),
      c.requires.bound,
    )
    (least_is _ _))
    (to_z-of_z w128 _ c.ranges.units ∙ whole c.args.units c.requires.units) (to_z-of_z w128 _ c.ranges.excess ∙ whole c.args.excess c.requires.excess)
    (to_z-of_z w128 _ v ∙ c.violation_target.ensures)
  where
    whole : (z : ℤ) {n : ℕ} → pos n ≤ℤ z → z ≡ pos (unsigned_abs z)
    whole z {n} l = omega (arith, ints, l)
