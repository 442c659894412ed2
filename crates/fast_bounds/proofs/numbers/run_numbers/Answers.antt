use Rattle.std.proofs.Common.{rules, pos, ap, ◌∙◌, sym, refl}
use Rattle.std.specs.Int.{w128}
use Rattle.std.proofs.lemmas.Int.{to_z-of_z}
use mir.Val.{SFits}
use Rattle.qp_model.specs.bounds.Errors.{ErrorSums, epsilon}
use Rattle.qp_model.specs.problem.Parts.{design_of}
use Rattle.qp_model.specs.declared.design_parts.DesignParts.{DesignParts}
use Rattle.step_error.specs.ErrorSums.{sums_of}
use Rattle.lean_engine.proofs.Engine.RefusalFacts.{refused_by, choice_same}
use Rattle.lean_engine.proofs.Engine.GenerationFacts.{size_kept, kept_least}
use Rattle.lean_engine.proofs.Engine.AnswerLaws.{absent_of_error}
use Rattle.lean_engine.proofs.Engine.BuiltFacts.{exponent_small, exponents_listed}
use Rattle.fast_bounds.proofs.FastNumbers.{step_refused, sums_refused, choice_refused}
use Rattle.fast_bounds.proofs.numbers.run_numbers.Goals as goal

-- ---- the refusals
pub returns-in_err-step-clause-refused : goal.returns-in_err-step-clause-refused
returns-in_err-step-clause-refused c =
    let r : SFits w128 c.args.aim.r = search rules in
    let kept = rw (to_z-of_z w128 _ r) at c.in_err-step.ensures in
    refused_by c.from_residual.result _ _ c.from_residual.ensures.1
    (step_refused (design_of c.args.design.now) c.args.aim c.args.stepped.now.s c.args.steps c.args.exps.now c.requires.steps c.requires.few c.requires.exponents _ kept.value kept.named)

pub returns-in_err-sums-clause-refused : goal.returns-in_err-sums-clause-refused
returns-in_err-sums-clause-refused c =
    let r : SFits w128 c.args.aim.r = search rules in
    let kept = rw (to_z-of_z w128 _ r) at c.in_err-sums.ensures in
    refused_by c.from_residual-in_err-sums.result _ _ c.from_residual-in_err-sums.ensures.1
    (sums_refused (design_of c.args.design.now) c.args.aim c.args.stepped.now.s c.args.steps c.args.exps.now c.requires.steps c.requires.few c.requires.exponents _ kept.value kept.named)

pub returns-in_err-choice-clause-refused : goal.returns-in_err-choice-clause-refused
returns-in_err-choice-clause-refused c =
    let r : SFits w128 c.args.aim.r = search rules in
    let l : SFits w128 c.args.aim.error_target = search rules in
    let sums = rw (to_z-of_z w128 _ r) at c.in_ok-sums.ensures.value in
    let kept = rw (to_z-of_z w128 _ l) at c.in_err-choice.ensures in
    refused_by c.from_residual-in_err-choice.result _ _ c.from_residual-in_err-choice.ensures.1
    (choice_refused (design_of c.args.design.now) c.args.aim c.args.stepped.now.s c.args.steps c.args.exps.now c.requires.steps c.requires.few c.requires.exponents
    (sums_of c.in_ok-sums.sums) _ sums.0 sums.1 (kept.fine.0 refl) kept.told)

-- ---- what is chosen
pub returns-clause-chosen : goal.returns-clause-chosen
returns-clause-chosen c =
    let r : SFits w128 c.args.aim.r = search rules in
    let l : SFits w128 c.args.aim.error_target = search rules in
    let sums = rw (to_z-of_z w128 _ r) at c.in_ok-sums.ensures.value in
    record {
      passes = record {
        steps = c.requires.steps;
        few = c.requires.few;
        exponents = c.requires.exponents;
        curved = c.requires.curved;
        error = sums.0;
        choice = choice_same _ _ _ _ _ _ c.in_ok-choice.choice.f sums.1 (ap (λ (p : DesignParts). p.grid) c.parts.ensures.value)
            (size_kept c.args.aim.error_target l) c.in_ok-choice.ensures.choice;
      };
      sums = sums.1;
      given = c.in_ok-sums.ensures.given;
      cost = c.in_ok-choice.ensures.cost ∙ ap (λ (sums : ErrorSums). pos (epsilon sums c.in_ok-choice.choice.f)) sums.1;
    }

-- ---- what each call asks of the aim and of the design
pub error_sums-requires-clause-some : goal.error_sums-requires-clause-some
error_sums-requires-clause-some c =
    let r : SFits w128 c.args.aim.r = search rules in
    rw (to_z-of_z w128 _ r) c.requires.aim.some

pub error_sums-requires-clause-narrow : goal.error_sums-requires-clause-narrow
error_sums-requires-clause-narrow c =
    let r : SFits w128 c.args.aim.r = search rules in
    rw (to_z-of_z w128 _ r) c.requires.aim.narrow

pub error_sums-requires-clause-form : goal.error_sums-requires-clause-form
error_sums-requires-clause-form c = c.requires.stepped.form

pub run_sums-requires-clause-step : goal.run_sums-requires-clause-step
run_sums-requires-clause-step c =
    let r : SFits w128 c.args.aim.r = search rules in
    rw (to_z-of_z w128 _ r) (let sums = rw (to_z-of_z w128 _ r) at c.in_ok-step.ensures.value in
    record { form = c.requires.stepped.form; bound = kept_least c.args.aim.r c.requires.aim.some; sums = sums.1; room = sums.0 })

pub run_sums-requires-clause-some : goal.run_sums-requires-clause-some
run_sums-requires-clause-some c =
    let r : SFits w128 c.args.aim.r = search rules in
    rw (to_z-of_z w128 _ r) c.requires.aim.some

pub run_sums-requires-clause-narrow : goal.run_sums-requires-clause-narrow
run_sums-requires-clause-narrow c =
    let r : SFits w128 c.args.aim.r = search rules in
    rw (to_z-of_z w128 _ r) c.requires.aim.narrow

pub run_sums-requires-clause-count : goal.run_sums-requires-clause-count
run_sums-requires-clause-count c = (exponents_listed (design_of c.args.design.now) _ _ c.requires.exponents).long ∙ sym c.requires.stepped.form.shapes.g.rows

pub run_sums-requires-clause-exponents : goal.run_sums-requires-clause-exponents
run_sums-requires-clause-exponents c = λ i l. (exponents_listed (design_of c.args.design.now) _ _ c.requires.exponents).high i 0 l

pub run_sums-requires-clause-exponent : goal.run_sums-requires-clause-exponent
run_sums-requires-clause-exponent c = exponent_small (design_of c.args.design.now) _ (c.requires.stepped.exponent c.args.design.now c.requires.stepped.form)

pub choose_bits-requires-clause-some : goal.choose_bits-requires-clause-some
choose_bits-requires-clause-some c =
    let l : SFits w128 c.args.aim.error_target = search rules in
    rw (to_z-of_z w128 _ l) c.requires.aim.errors

pub choose_bits-requires-clause-sums : goal.choose_bits-requires-clause-sums
choose_bits-requires-clause-sums c = c.in_ok-sums.ensures.given

pub choose_bits-requires-clause-grid : goal.choose_bits-requires-clause-grid
choose_bits-requires-clause-grid c = c.parts.ensures.sound.grid

-- ---- nothing is chosen on a refusal
pub returns-in_err-step-clause-chosen : goal.returns-in_err-step-clause-chosen
returns-in_err-step-clause-chosen c = absent_of_error c.from_residual.result _ c.from_residual.ensures.0

pub returns-in_err-sums-clause-chosen : goal.returns-in_err-sums-clause-chosen
returns-in_err-sums-clause-chosen c = absent_of_error c.from_residual-in_err-sums.result _ c.from_residual-in_err-sums.ensures.0

pub returns-in_err-choice-clause-chosen : goal.returns-in_err-choice-clause-chosen
returns-in_err-choice-clause-chosen c = absent_of_error c.from_residual-in_err-choice.result _ c.from_residual-in_err-choice.ensures.0
