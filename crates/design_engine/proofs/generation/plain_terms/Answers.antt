use Rattle.std.proofs.Common.{ℕ, pos, rules, ap, ◌∙◌}
use Rattle.std.specs.Int.{w128}
use Rattle.std.proofs.lemmas.Int.{to_z-of_z}
use mir.Val.{SFits}
use Rattle.design_engine.specs.Targets.{targets_of, error_limit}
use Rattle.design_engine.proofs.GenerationFacts.{bound_some, bound_narrow, whole_is, whole_some, whole_narrow, terms_same}
use Rattle.design_engine.proofs.generation.plain_terms.Goals as goal

pub error_limit-requires-clause-some : goal.error_limit-requires-clause-some
error_limit-requires-clause-some c = whole_some c.args.r _ c.ranges.r c.requires.bound (bound_some c.args.margin.now)

pub error_limit-requires-clause-narrow : goal.error_limit-requires-clause-narrow
error_limit-requires-clause-narrow c = whole_narrow c.args.r _ c.ranges.r c.requires.bound (bound_narrow c.args.margin.now c.requires.room)

pub returns : goal.returns
returns c =
    let h : SFits w128 c.half_target.result = search rules in
    let e : SFits w128 c.error_limit.result = search rules in
    let units : SFits w128 c.args.margin.now.units = search rules in
    let cost : SFits w128 c.args.margin.now.cost = search rules in
    terms_same (targets_of c.args.parts.now) c.args.margin.now _ _ _ _ _ (to_z-of_z w128 _ c.ranges.r ∙ c.requires.bound) (to_z-of_z w128 _ h ∙ c.half_target.ensures)
    (to_z-of_z w128 _ e ∙ c.error_limit.ensures ∙ ap (λ (n : ℕ). pos (error_limit (targets_of c.args.parts.now) n)) (whole_is c.args.r _ c.ranges.r c.requires.bound))
    (to_z-of_z w128 _ units) (to_z-of_z w128 _ cost)

pub error_limit-requires-clause-design : goal.error_limit-requires-clause-design
error_limit-requires-clause-design c = c.requires.design
