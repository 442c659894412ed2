use Rattle.std.proofs.Common.{rules, pos, ap, ◌∙◌, refl}
use Rattle.std.specs.Int.{w128}
use mir.Val.{SFits}
use Rattle.std.proofs.lemmas.Int.{to_z-of_z}
use Rattle.qp_model.specs.bounds.Errors.{ErrorSums, epsilon}
use Rattle.step_error.specs.ErrorSums.{sums_of}
use Rattle.qp_model.specs.declared.design_parts.DesignParts.{DesignParts}
use Rattle.design_engine.proofs.RefusalFacts.{refused_by, steps_refused, sums_refused, choice_refused, choice_same}
use Rattle.qp_model.specs.problem.Parts.{design_of}
use Rattle.design_engine.proofs.GenerationFacts.{size_kept, kept_least}
use Rattle.design_engine.proofs.AnswerLaws.{absent_of_error}
use Rattle.design_engine.proofs.BuiltFacts.{exponent_small}
use Rattle.design_engine.proofs.aimed.steps_and_bits.Goals as goal

-- ---- the refusals
pub returns-in_err-steps-clause-refused : goal.returns-in_err-steps-clause-refused
returns-in_err-steps-clause-refused c =
    let r : SFits w128 c.args.aim.r = search rules in
    let t : SFits w128 c.args.aim.step_target = search rules in
    let kept = rw (to_z-of_z w128 _ r, to_z-of_z w128 _ t) at c.in_err-steps.ensures in
    refused_by c.from_residual.result _ _ c.from_residual.ensures.1
    (steps_refused (design_of c.args.design.now) c.args.aim c.args.stepped.now.s _ kept.value kept.told)

pub returns-in_err-sums-clause-refused : goal.returns-in_err-sums-clause-refused
returns-in_err-sums-clause-refused c =
    let r : SFits w128 c.args.aim.r = search rules in
    let t : SFits w128 c.args.aim.step_target = search rules in
    let count = rw (to_z-of_z w128 _ r, to_z-of_z w128 _ t) at c.in_ok-steps.ensures.value in
    let kept = rw (to_z-of_z w128 _ r) at c.in_err-sums.ensures in
    refused_by c.from_residual-in_err-sums.result _ _ c.from_residual-in_err-sums.ensures.1
    (sums_refused (design_of c.args.design.now) c.args.aim c.args.stepped.now.s _ count.0 kept.value kept.named)

pub returns-in_err-choice-clause-refused : goal.returns-in_err-choice-clause-refused
returns-in_err-choice-clause-refused c =
    let r : SFits w128 c.args.aim.r = search rules in
    let t : SFits w128 c.args.aim.step_target = search rules in
    let l : SFits w128 c.args.aim.error_target = search rules in
    let count = rw (to_z-of_z w128 _ r, to_z-of_z w128 _ t) at c.in_ok-steps.ensures.value in
    let sums = rw (to_z-of_z w128 _ r) at c.in_ok-sums.ensures.value in
    let kept = rw (to_z-of_z w128 _ l) at c.in_err-choice.ensures in
    refused_by c.from_residual-in_err-choice.result _ _ c.from_residual-in_err-choice.ensures.1
    (choice_refused (design_of c.args.design.now) c.args.aim c.args.stepped.now.s (sums_of c.in_ok-sums.sums) _ count.0 sums.0
    sums.1 (kept.fine.0 refl) kept.told)

-- ---- what is chosen
pub returns-clause-chosen : goal.returns-clause-chosen
returns-clause-chosen c =
    let r : SFits w128 c.args.aim.r = search rules in
    let t : SFits w128 c.args.aim.step_target = search rules in
    let l : SFits w128 c.args.aim.error_target = search rules in
    let count = rw (to_z-of_z w128 _ r, to_z-of_z w128 _ t) at c.in_ok-steps.ensures.value in
    let sums = rw (to_z-of_z w128 _ r) at c.in_ok-sums.ensures.value in
    record {
      passes = record {
        steps = count.0;
        error = sums.0;
        choice = choice_same _ _ _ _ _ _ c.in_ok-choice.choice.f sums.1 (ap (λ (p : DesignParts). p.grid) c.parts.ensures.value)
            (size_kept c.args.aim.error_target l) c.in_ok-choice.ensures.choice;
      };
      steps = count.1;
      sums = record { form = c.requires.stepped.form; bound = kept_least c.args.aim.r c.requires.aim.some; sums = sums.1; room = sums.0 };
      cost = c.in_ok-choice.ensures.cost ∙ ap (λ (sums : ErrorSums). pos (epsilon sums c.in_ok-choice.choice.f)) sums.1;
    }

-- ---- what each call asks of the aim and of the design
pub steps-requires-clause-some : goal.steps-requires-clause-some
steps-requires-clause-some c =
    let r : SFits w128 c.args.aim.r = search rules in
    rw (to_z-of_z w128 _ r) c.requires.aim.some

pub steps-requires-clause-narrow : goal.steps-requires-clause-narrow
steps-requires-clause-narrow c =
    let r : SFits w128 c.args.aim.r = search rules in
    rw (to_z-of_z w128 _ r) c.requires.aim.narrow

pub steps-requires-clause-target : goal.steps-requires-clause-target
steps-requires-clause-target c =
    let t : SFits w128 c.args.aim.step_target = search rules in
    rw (to_z-of_z w128 _ t) c.requires.aim.steps

pub steps-requires-clause-exponent : goal.steps-requires-clause-exponent
steps-requires-clause-exponent c = exponent_small (design_of c.args.design.now) _ (c.requires.stepped.exponent c.args.design.now c.requires.stepped.form)

pub error_sums-requires-clause-some : goal.error_sums-requires-clause-some
error_sums-requires-clause-some c =
    let r : SFits w128 c.args.aim.r = search rules in
    rw (to_z-of_z w128 _ r) c.requires.aim.some

pub error_sums-requires-clause-narrow : goal.error_sums-requires-clause-narrow
error_sums-requires-clause-narrow c =
    let r : SFits w128 c.args.aim.r = search rules in
    rw (to_z-of_z w128 _ r) c.requires.aim.narrow

pub error_sums-requires-clause-form : goal.error_sums-requires-clause-form
error_sums-requires-clause-form c = c.requires.stepped.form

pub choose_bits-requires-clause-some : goal.choose_bits-requires-clause-some
choose_bits-requires-clause-some c =
    let l : SFits w128 c.args.aim.error_target = search rules in
    rw (to_z-of_z w128 _ l) c.requires.aim.errors

pub choose_bits-requires-clause-sums : goal.choose_bits-requires-clause-sums
choose_bits-requires-clause-sums c = c.in_ok-sums.ensures.given

pub choose_bits-requires-clause-grid : goal.choose_bits-requires-clause-grid
choose_bits-requires-clause-grid c = c.parts.ensures.sound.grid

-- ---- nothing is chosen on a refusal
pub returns-in_err-steps-clause-chosen : goal.returns-in_err-steps-clause-chosen
returns-in_err-steps-clause-chosen c = absent_of_error c.from_residual.result _ c.from_residual.ensures.0

pub returns-in_err-sums-clause-chosen : goal.returns-in_err-sums-clause-chosen
returns-in_err-sums-clause-chosen c = absent_of_error c.from_residual-in_err-sums.result _ c.from_residual-in_err-sums.ensures.0

pub returns-in_err-choice-clause-chosen : goal.returns-in_err-choice-clause-chosen
returns-in_err-choice-clause-chosen c = absent_of_error c.from_residual-in_err-choice.result _ c.from_residual-in_err-choice.ensures.0
