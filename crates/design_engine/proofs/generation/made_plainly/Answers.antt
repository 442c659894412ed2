use Rattle.std.proofs.Common.{rules, ap, sym, subst, ◌∙◌}
use Rattle.std.specs.Int.{w128}
use Rattle.std.proofs.lemmas.Int.{to_z-of_z}
use mir.Val.{SFits}
use Rattle.qp_model.specs.problem.Parts.{design_of}
use Rattle.qp_model.specs.problem.Policy.{plans_of}
use Rattle.qp_model.specs.declared.design_parts.DesignParts.{DesignParts}
use Rattle.design_engine.specs.Targets.{targets_of}
use Rattle.design_engine.specs.Refusals.{AfterMargin}
use Rattle.design_engine.specs.Terms.{AreTerms, plain_terms}
use Rattle.design_engine.proofs.AnswerLaws.{handed, plain_told}
use Rattle.design_engine.proofs.GenerationFacts.{plain_ranges}
use Rattle.design_engine.proofs.RefusalFacts.{margin_refused, multiplier_refused, form_caused}
use Rattle.design_engine.proofs.generation.made_plainly.Goals as goal

pub returns-in_err-margin : goal.returns-in_err-margin
returns-in_err-margin c =
    handed _ _ _ _ c.from_residual.result c.from_residual.ensures.0 c.from_residual.ensures.1
    (margin_refused (design_of c.args.design.now) (plans_of c.args.policy.now) (AfterMargin (design_of c.args.design.now) (targets_of c.args.design.now)) c.margins.result _ c.in_err-margin.was c.margins.ensures.wide c.margins.ensures.short)

pub returns-in_err-r : goal.returns-in_err-r
returns-in_err-r c =
    let margin = c.in_ok-margin.ensures in
    handed _ _ _ _ c.from_residual-in_err-r.result c.from_residual-in_err-r.ensures.0 c.from_residual-in_err-r.ensures.1
    (multiplier_refused (design_of c.args.design.now) (targets_of c.args.design.now) (plans_of c.args.policy.now) c.in_ok-margin.margin _ (record { room = margin.room; margin = margin.margin; slack = margin.slack }) c.in_err-r.ensures.value c.in_err-r.ensures.named)

pub returns-in_err-stepped : goal.returns-in_err-stepped
returns-in_err-stepped c =
    let margin = c.in_ok-margin.ensures in
    handed _ _ _ _ c.from_residual-in_err-stepped.result c.from_residual-in_err-stepped.ensures.0 c.from_residual-in_err-stepped.ensures.1
    (λ e f. rw f (form_caused (design_of c.args.design.now) (targets_of c.args.design.now) (plans_of c.args.policy.now) c.in_ok-margin.margin (record { room = margin.room; margin = margin.margin; slack = margin.slack }) c.in_ok-r.ensures.value.0 _ c.in_err-stepped.ensures.refused))

-- ---- what is made
pub plain_terms-terms-requires-clause-design : goal.plain_terms-terms-requires-clause-design
plain_terms-terms-requires-clause-design c = c.parts.ensures.sound

pub made_with-made-requires-clause-stepped : goal.made_with-made-requires-clause-stepped
made_with-made-requires-clause-stepped c = c.in_ok-stepped.ensures.stepped

pub made_with-made-requires-clause-terms : goal.made_with-made-requires-clause-terms
made_with-made-requires-clause-terms c =
    subst AreTerms (sym c.plain_terms-terms.ensures) (plain_ranges c.parts.result.now c.in_ok-margin.margin c.parts.ensures.sound c.in_ok-r.ensures.value.0)

pub returns : goal.returns
returns c =
    let margin = c.in_ok-margin.ensures in
    plain_told c.args.design.now (plans_of c.args.policy.now) c.in_ok-margin.margin c.in_ok-stepped.stepped.s c.plain_terms-terms.result c.made_with-made.result c.requires
    (record {
      before = record {
        before = record { room = margin.room; margin = margin.margin; slack = margin.slack };
        multiplier = c.in_ok-r.ensures.value.0;
        form = c.in_ok-stepped.ensures.passes;
      };
      exponent = c.in_ok-stepped.ensures.stepped.exponent c.args.design.now c.in_ok-stepped.ensures.stepped.form;
    })
    (c.plain_terms-terms.ensures ∙ ap (λ (p : DesignParts). plain_terms (targets_of p) c.in_ok-margin.margin) c.parts.ensures.value) c.made_with-made.ensures

pub margins-requires : goal.margins-requires
margins-requires c = c.requires

pub multiplier-requires-clause-cost : goal.multiplier-requires-clause-cost
multiplier-requires-clause-cost c = c.in_ok-margin.ensures.cost

pub multiplier-requires-clause-units : goal.multiplier-requires-clause-units
multiplier-requires-clause-units c = c.in_ok-margin.ensures.slack

pub plain_terms-terms-requires-clause-bound : goal.plain_terms-terms-requires-clause-bound
plain_terms-terms-requires-clause-bound c = let r : SFits w128 c.in_ok-r.r = search rules in rw (to_z-of_z w128 _ r) c.in_ok-r.ensures.value.1

pub plain_terms-terms-requires-clause-room : goal.plain_terms-terms-requires-clause-room
plain_terms-terms-requires-clause-room c = c.in_ok-r.ensures.value.0
