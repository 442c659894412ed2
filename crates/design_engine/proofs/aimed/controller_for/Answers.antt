use Rattle.std.proofs.Common.{inr, ℕ, pos, unsigned_abs, rules, refl, ap, sym, ◌∙◌}
use Rattle.std.specs.Int.{w128}
use Rattle.std.proofs.lemmas.Int.{to_z-of_z}
use mir.Val.{SFits}
use Rattle.qp_model.specs.problem.Parts.{design_of}
use Rattle.design_engine.proofs.AnswerLaws.{absent_of_error, ok_of_error}
use Rattle.design_engine.proofs.RefusalFacts.{refused_by}
use Rattle.design_engine.specs.Bounds.{stated_cost}
use Rattle.design_engine.proofs.BuiltFacts.{made_from}
use Rattle.design_engine.proofs.ResidualFacts.{given_from}
use Rattle.design_engine.proofs.aimed.controller_for.Goals as goal

-- ---- the refusals
pub returns-in_err-chosen-clause-refused : goal.returns-in_err-chosen-clause-refused
returns-in_err-chosen-clause-refused c =
    refused_by c.from_residual.result _ _ c.from_residual.ensures.1 (λ e f. rw f (inr c.in_err-chosen.ensures.refused))

pub returns-in_err-controller-clause-refused : goal.returns-in_err-controller-clause-refused
returns-in_err-controller-clause-refused c =
    refused_by c.from_residual-in_err-controller.result _ _ c.from_residual-in_err-controller.ensures.1 (λ e f. rw f c.in_err-controller.ensures.refused)

pub controller_by-requires-clause-stepped : goal.controller_by-requires-clause-stepped
controller_by-requires-clause-stepped c = c.requires.stepped

pub controller_by-requires-clause-aim : goal.controller_by-requires-clause-aim
controller_by-requires-clause-aim c = c.requires.aim

pub controller_by-requires-clause-chosen : goal.controller_by-requires-clause-chosen
controller_by-requires-clause-chosen c = c.in_ok-chosen.ensures.chosen

-- ---- what is made
pub real_cost-cost-requires : goal.real_cost-cost-requires
real_cost-cost-requires c =
    let made = c.in_ok-controller.ensures.made in
    let p = c.args.design.now in
    record {
      parts = p;
      r = _;
      made = given_from p _ _ c.args.stepped.now.s _ _ _ c.args.stepped.now.condensed c.in_ok-controller.controller c.requires.stepped.form refl made
          c.in_ok-chosen.chosen.sums c.in_ok-chosen.ensures.chosen.sums c.in_ok-controller.ensures.sound c.in_ok-controller.ensures.passes.descent;
    }

pub returns-clause-made : goal.returns-clause-made
returns-clause-made c =
    let p = c.args.design.now in
    let made = c.in_ok-controller.ensures.made in
    let chosen = c.in_ok-chosen.ensures.chosen in
    let cost : SFits w128 c.real_cost-cost.result = search rules in
    let eps : SFits w128 c.in_ok-chosen.chosen.choice.eps = search rules in
    record {
      made = made_from p c.args.aim c.in_ok-controller.controller c.args.stepped.now.s _ _ _ c.requires.stepped.form.design c.requires.stepped.form.sizes.cost_room
          (c.requires.stepped.exponent p c.requires.stepped.form) c.in_ok-controller.ensures.exponents c.in_ok-controller.ensures.curved chosen.steps chosen.passes.choice
          c.in_ok-controller.ensures.sound made;
      cost = to_z-of_z w128 _ cost ∙ c.real_cost-cost.ensures p _
          (given_from p _ _ c.args.stepped.now.s _ _ _ c.args.stepped.now.condensed c.in_ok-controller.controller c.requires.stepped.form refl made
          c.in_ok-chosen.chosen.sums chosen.sums c.in_ok-controller.ensures.sound c.in_ok-controller.ensures.passes.descent);
      errors = to_z-of_z w128 _ eps ∙ chosen.cost ∙ ap (λ (f : ℕ). pos (stated_cost (design_of p) (unsigned_abs c.args.aim.r) f)) (sym made.fraction_bits);
    }

pub returns-clause-passes : goal.returns-clause-passes
returns-clause-passes c = (c.in_ok-chosen.chosen.choice.f, c.in_ok-controller.ensures.passes)

-- ---- nothing is made on a refusal
pub returns-in_err-chosen-clause-made : goal.returns-in_err-chosen-clause-made
returns-in_err-chosen-clause-made c = absent_of_error c.from_residual.result _ c.from_residual.ensures.0

pub returns-in_err-chosen-clause-passes : goal.returns-in_err-chosen-clause-passes
returns-in_err-chosen-clause-passes c = ok_of_error c.from_residual.result _ c.from_residual.ensures.0

pub returns-in_err-controller-clause-made : goal.returns-in_err-controller-clause-made
returns-in_err-controller-clause-made c = absent_of_error c.from_residual-in_err-controller.result _ c.from_residual-in_err-controller.ensures.0

pub returns-in_err-controller-clause-passes : goal.returns-in_err-controller-clause-passes
returns-in_err-controller-clause-passes c = ok_of_error c.from_residual-in_err-controller.result _ c.from_residual-in_err-controller.ensures.0
