use Rattle.std.proofs.Common.{ℕ, ◌≤◌, ◌^◌, pos, unsigned_abs, ap, rules, subst, sym, ◌∙◌}
use Rattle.std.specs.Int.{w128}
use Rattle.std.proofs.lemmas.Int.{to_z-of_z}
use mir.Val.{SFits}
use Rattle.qp_model.specs.bounds.Choices.{lean_multiplier, lean_multiplier_size}
use Rattle.qp_model.specs.declared.design_parts.DesignParts.{DesignParts}
use Rattle.qp_model.specs.problem.Parts.{design_of}
use Rattle.qp_model.specs.problem.Policy.{plans_of}
use Rattle.design_engine.specs.Targets.{targets_of, floor_target}
use Rattle.design_engine.specs.Terms.{AreTerms}
use Rattle.design_engine.specs.Tests.{HasAimCause}
use Rattle.design_engine.proofs.AnswerLaws.{handed}
use Rattle.design_engine.proofs.GenerationFacts.{whole_least}
use Rattle.lean_engine.specs.Lean.{lean_terms}
use Rattle.lean_engine.proofs.LeanFacts.{lean_ranges}
use Rattle.lean_engine.proofs.PricedFacts.{lean_told}
use Rattle.lean_engine.proofs.RefusalFacts.{excess_refused, multiplier_refused}
use Rattle.lean_engine.proofs.generation.priced.Goals as goal

pub returns-in_err-excess : goal.returns-in_err-excess
returns-in_err-excess c =
    handed _ _ _ _ c.from_residual.result c.from_residual.ensures.0 c.from_residual.ensures.1
    (excess_refused lean_multiplier_size HasAimCause (design_of c.args.design.now) (targets_of c.args.design.now) (plans_of c.args.policy.now) (plans_of c.args.reference.now)
    c.args.margin c.args.stepped.now.s c.requires.scaled _ c.in_err-excess.ensures.refused)

pub returns-in_err-r : goal.returns-in_err-r
returns-in_err-r c =
    let u : SFits w128 c.args.margin.units = search rules in
    let x : SFits w128 c.in_ok-excess.excess = search rules in
    let t : SFits w128 c.floor_target.result = search rules in
    let kept = rw (to_z-of_z w128 _ u, to_z-of_z w128 _ x, to_z-of_z w128 _ t) at c.in_err-r.ensures in
    handed _ _ _ _ c.from_residual-in_err-r.result c.from_residual-in_err-r.ensures.0 c.from_residual-in_err-r.ensures.1
    (multiplier_refused lean_multiplier_size HasAimCause (design_of c.args.design.now) (targets_of c.args.design.now) (plans_of c.args.policy.now) (plans_of c.args.reference.now)
    c.args.margin c.args.stepped.now.s c.requires.scaled (unsigned_abs c.in_ok-excess.excess) (unsigned_abs c.floor_target.result) _ c.in_ok-excess.ensures.room
    (ap unsigned_abs c.in_ok-excess.ensures.value)
    (ap unsigned_abs c.floor_target.ensures ∙ ap (λ (p : DesignParts). floor_target (targets_of p)) c.parts-parts.ensures.value) kept.value kept.named)

-- ---- the terms
pub lean_terms-terms-requires-clause-design : goal.lean_terms-terms-requires-clause-design
lean_terms-terms-requires-clause-design c = c.parts-parts.ensures.sound

pub lean_terms-terms-requires-clause-units : goal.lean_terms-terms-requires-clause-units
lean_terms-terms-requires-clause-units c =
    let u : SFits w128 c.args.margin.units = search rules in
    rw (to_z-of_z w128 _ u) c.requires.scaled.margin.slack

pub lean_terms-terms-requires-clause-excess : goal.lean_terms-terms-requires-clause-excess
lean_terms-terms-requires-clause-excess c =
    let x : SFits w128 c.in_ok-excess.excess = search rules in
    whole_least c.in_ok-excess.excess _ x c.in_ok-excess.ensures.value

pub lean_terms-terms-requires-clause-bound : goal.lean_terms-terms-requires-clause-bound
lean_terms-terms-requires-clause-bound c =
    let u : SFits w128 c.args.margin.units = search rules in
    let x : SFits w128 c.in_ok-excess.excess = search rules in
    let t : SFits w128 c.floor_target.result = search rules in
    let r : SFits w128 c.in_ok-r.r = search rules in
    let kept = rw (to_z-of_z w128 _ u, to_z-of_z w128 _ x, to_z-of_z w128 _ t) at c.in_ok-r.ensures.value in
    rw (to_z-of_z w128 _ u, to_z-of_z w128 _ x, to_z-of_z w128 _ r)
    (kept.1 ∙ ap (λ (n : ℕ). pos (lean_multiplier (unsigned_abs c.args.margin.units) (unsigned_abs c.in_ok-excess.excess) n)) (ap unsigned_abs c.floor_target.ensures))

pub lean_terms-terms-requires-clause-room : goal.lean_terms-terms-requires-clause-room
lean_terms-terms-requires-clause-room c =
    let u : SFits w128 c.args.margin.units = search rules in
    let x : SFits w128 c.in_ok-excess.excess = search rules in
    let t : SFits w128 c.floor_target.result = search rules in
    let kept = rw (to_z-of_z w128 _ u, to_z-of_z w128 _ x, to_z-of_z w128 _ t) at c.in_ok-r.ensures.value in
    rw (to_z-of_z w128 _ u, to_z-of_z w128 _ x)
    (subst (λ (n : ℕ). lean_multiplier_size (unsigned_abs c.args.margin.units) (unsigned_abs c.in_ok-excess.excess) n ≤ 2 ^ 126) (ap unsigned_abs c.floor_target.ensures) kept.0)

-- ---- what is made
pub made_with-requires-clause-stepped : goal.made_with-requires-clause-stepped
made_with-requires-clause-stepped c = c.requires.stepped

pub made_with-requires-clause-terms : goal.made_with-requires-clause-terms
made_with-requires-clause-terms c =
    let u : SFits w128 c.args.margin.units = search rules in
    let x : SFits w128 c.in_ok-excess.excess = search rules in
    let t : SFits w128 c.floor_target.result = search rules in
    let kept = rw (to_z-of_z w128 _ u, to_z-of_z w128 _ x, to_z-of_z w128 _ t) at c.in_ok-r.ensures.value in
    let is = rw (to_z-of_z w128 _ u, to_z-of_z w128 _ x) at c.lean_terms-terms.ensures in
    subst AreTerms (sym is) (lean_ranges c.parts-parts.result.now (unsigned_abs c.args.margin.units) (unsigned_abs c.in_ok-excess.excess) c.parts-parts.ensures.sound
    (subst (λ (n : ℕ). lean_multiplier_size (unsigned_abs c.args.margin.units) (unsigned_abs c.in_ok-excess.excess) n ≤ 2 ^ 126) (ap unsigned_abs c.floor_target.ensures) kept.0))

pub returns : goal.returns
returns c =
    let u : SFits w128 c.args.margin.units = search rules in
    let x : SFits w128 c.in_ok-excess.excess = search rules in
    let t : SFits w128 c.floor_target.result = search rules in
    let kept = rw (to_z-of_z w128 _ u, to_z-of_z w128 _ x, to_z-of_z w128 _ t) at c.in_ok-r.ensures.value in
    let is = rw (to_z-of_z w128 _ u, to_z-of_z w128 _ x) at c.lean_terms-terms.ensures in
    let parts = c.parts-parts.ensures.value in
    let share = ap unsigned_abs c.floor_target.ensures ∙ ap (λ (p : DesignParts). floor_target (targets_of p)) parts in
    let excess = c.in_ok-excess.ensures.value in
    lean_told c.args.design.now (plans_of c.args.policy.now) (plans_of c.args.reference.now) c.args.margin c.requires.plans c.requires.references
    c.args.stepped.now.s c.lean_terms-terms.result c.made_with.result
    (record {
      before = c.requires.scaled;
      excess = c.in_ok-excess.ensures.room;
      multiplier = subst (λ (n : ℕ). n ≤ 2 ^ 126) (λ i. lean_multiplier_size (unsigned_abs c.args.margin.units) (unsigned_abs (excess i)) (share i)) kept.0;
    })
    (is ∙ (λ i. lean_terms (targets_of (parts i)) (unsigned_abs c.args.margin.units) (unsigned_abs (excess i)))) c.made_with.ensures
