use Rattle.std.proofs.Common.{ap, rules, sym, subst, ◌∙◌}
use Rattle.std.specs.Int.{w128}
use Rattle.std.proofs.lemmas.Int.{to_z-of_z}
use mir.Val.{SFits}
use Rattle.qp_model.specs.problem.Parts.{design_of}
use Rattle.qp_model.specs.problem.Policy.{plans_of}
use Rattle.qp_model.specs.declared.design_parts.DesignParts.{DesignParts}
use Rattle.lean_engine.specs.Engine.Targets.{targets_of}
use Rattle.lean_engine.specs.Engine.Terms.{AreTerms, plain_terms}
use Rattle.lean_engine.specs.Engine.declared.bounds.Terms.{Terms}
use Rattle.lean_engine.proofs.Engine.GenerationFacts.{plain_ranges}
use Rattle.lean_engine.proofs.Engine.RefusalFacts.{margin_refused}
use Rattle.fast_bounds.specs.FastMargin.{AfterFastMargin}
use Rattle.fast_bounds.specs.declared.generation.FastMade.{FastMade}
use Rattle.fast_bounds.proofs.FastAnswers.{handed}
use Rattle.fast_bounds.proofs.FastMargin.{margin_room, margin_narrow, margin_wide, margin_form_caused, margin_told}
use Rattle.fast_bounds.proofs.margin.made_by_margin.Goals as goal

pub returns-in_err-margin : goal.returns-in_err-margin
returns-in_err-margin c =
    handed FastMade _ _ _ _ c.from_residual.result c.from_residual.ensures.0 c.from_residual.ensures.1
    (margin_refused (design_of c.args.design.now) (plans_of c.args.policy.now) (AfterFastMargin (design_of c.args.design.now) (targets_of c.args.design.now))
    c.margins.result _ c.in_err-margin.was c.margins.ensures.wide c.margins.ensures.short)

pub returns-in_err-r : goal.returns-in_err-r
returns-in_err-r c =
    let margin = c.in_ok-margin.ensures in
    handed FastMade _ _ _ _ c.from_residual-in_err-r.result c.from_residual-in_err-r.ensures.0 c.from_residual-in_err-r.ensures.1
    (margin_wide (design_of c.args.design.now) (targets_of c.args.design.now) (plans_of c.args.policy.now) c.in_ok-margin.margin
    (record { room = margin.room; margin = margin.margin; slack = margin.slack }) _ c.in_err-r.ensures.value c.in_err-r.ensures.named)

pub returns-in_err-stepped : goal.returns-in_err-stepped
returns-in_err-stepped c =
    let margin = c.in_ok-margin.ensures in
    handed FastMade _ _ _ _ c.from_residual-in_err-stepped.result c.from_residual-in_err-stepped.ensures.0 c.from_residual-in_err-stepped.ensures.1
    (λ e f. rw f (margin_form_caused (design_of c.args.design.now) (targets_of c.args.design.now) (plans_of c.args.policy.now) c.in_ok-margin.margin
    (record { room = margin.room; margin = margin.margin; slack = margin.slack }) c.in_ok-r.ensures.value.0 _ c.in_err-stepped.ensures.refused))

-- ---- what is made
pub plain_terms-terms-requires-clause-design : goal.plain_terms-terms-requires-clause-design
plain_terms-terms-requires-clause-design c = c.parts.ensures.sound

pub plain_terms-terms-requires-clause-bound : goal.plain_terms-terms-requires-clause-bound
plain_terms-terms-requires-clause-bound c =
    let r : SFits w128 c.in_ok-r.r = search rules in
    to_z-of_z w128 _ r ∙ c.in_ok-r.ensures.value.1

pub plain_terms-terms-requires-clause-room : goal.plain_terms-terms-requires-clause-room
plain_terms-terms-requires-clause-room c = margin_room c.in_ok-margin.margin c.in_ok-r.ensures.value.0

pub fast_made_with-made-requires-clause-stepped : goal.fast_made_with-made-requires-clause-stepped
fast_made_with-made-requires-clause-stepped c = c.in_ok-stepped.ensures.stepped

pub fast_made_with-made-requires-clause-terms : goal.fast_made_with-made-requires-clause-terms
fast_made_with-made-requires-clause-terms c =
    subst AreTerms (sym c.plain_terms-terms.ensures)
    (plain_ranges c.parts.result.now c.in_ok-margin.margin c.parts.ensures.sound (margin_room c.in_ok-margin.margin c.in_ok-r.ensures.value.0))

pub fast_made_with-made-requires-clause-narrow : goal.fast_made_with-made-requires-clause-narrow
fast_made_with-made-requires-clause-narrow c =
    margin_narrow c.in_ok-margin.margin c.plain_terms-terms.result.aim.r (ap (λ (x : Terms). x.aim.r) c.plain_terms-terms.ensures) c.in_ok-r.ensures.value.0

pub returns : goal.returns
returns c =
    let margin = c.in_ok-margin.ensures in
    margin_told c.args.design.now (plans_of c.args.policy.now) c.in_ok-margin.margin c.requires (record { room = margin.room; margin = margin.margin; slack = margin.slack })
    c.in_ok-stepped.stepped.s c.plain_terms-terms.result c.fast_made_with-made.result c.in_ok-r.ensures.value.0 c.in_ok-stepped.ensures.passes
    (c.in_ok-stepped.ensures.stepped.exponent c.args.design.now c.in_ok-stepped.ensures.stepped.form)
    (c.plain_terms-terms.ensures ∙ ap (λ (p : DesignParts). plain_terms (targets_of p) c.in_ok-margin.margin) c.parts.ensures.value) c.fast_made_with-made.ensures
