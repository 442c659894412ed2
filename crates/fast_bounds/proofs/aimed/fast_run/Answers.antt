use Rattle.std.proofs.Common.{inl, inr, ℕ, List, rules, refl, subst, sym}
use Rattle.std.specs.Int.{w128}
use Rattle.std.proofs.lemmas.Int.{to_z-of_z}
use mir.Val.{SFits}
use Rattle.qp_model.specs.problem.Parts.{design_of}
use Rattle.qp_model.specs.form.Curvature.{AreExponents}
use Rattle.lean_engine.specs.Engine.RowExponents.{exponent_in, AreExponentsOf}
use Rattle.lean_engine.proofs.Engine.AnswerLaws.{absent_of_error}
use Rattle.lean_engine.proofs.Engine.RefusalFacts.{refused_by}
use Rattle.lean_engine.proofs.Engine.BuiltFacts.{exponent_small}
use Rattle.fast_bounds.specs.FastTerms.{AreRunNumbersOf}
use Rattle.fast_bounds.proofs.FastAssembled.{steps_refused}
use Rattle.fast_bounds.proofs.aimed.fast_run.Goals as goal

-- ---- what each call asks
pub fast_steps-requires-clause-exponent : goal.fast_steps-requires-clause-exponent
fast_steps-requires-clause-exponent c = exponent_small (design_of c.args.design.now) _ (c.requires.stepped.exponent c.args.design.now c.requires.stepped.form)

pub fast_steps-requires-clause-some : goal.fast_steps-requires-clause-some
fast_steps-requires-clause-some c =
    let r : SFits w128 c.args.aim.r = search rules in
    rw (to_z-of_z w128 _ r) c.requires.aim.some

pub fast_steps-requires-clause-narrow : goal.fast_steps-requires-clause-narrow
fast_steps-requires-clause-narrow c =
    let r : SFits w128 c.args.aim.r = search rules in
    rw (to_z-of_z w128 _ r) c.requires.narrow

pub fast_steps-requires-clause-target : goal.fast_steps-requires-clause-target
fast_steps-requires-clause-target c =
    let t : SFits w128 c.args.aim.step_target = search rules in
    rw (to_z-of_z w128 _ t) c.requires.aim.steps

pub row_exponents-requires-clause-form : goal.row_exponents-requires-clause-form
row_exponents-requires-clause-form c = c.requires.stepped.form

pub row_exponents-requires-clause-chosen : goal.row_exponents-requires-clause-chosen
row_exponents-requires-clause-chosen c = c.requires.stepped.exponent

pub row_exponents-requires-clause-curved : goal.row_exponents-requires-clause-curved
row_exponents-requires-clause-curved c = c.requires.stepped.curved

pub run_numbers-requires-clause-stepped : goal.run_numbers-requires-clause-stepped
run_numbers-requires-clause-stepped c = c.requires.stepped

pub run_numbers-requires-clause-aim : goal.run_numbers-requires-clause-aim
run_numbers-requires-clause-aim c = c.requires.aim

pub run_numbers-requires-clause-steps : goal.run_numbers-requires-clause-steps
run_numbers-requires-clause-steps c =
    let r : SFits w128 c.args.aim.r = search rules in
    let t : SFits w128 c.args.aim.step_target = search rules in
    rw (to_z-of_z w128 _ r, to_z-of_z w128 _ t) at c.in_ok-steps.ensures.value

pub run_numbers-requires-clause-few : goal.run_numbers-requires-clause-few
run_numbers-requires-clause-few c = c.in_ok-steps.ensures.few

pub run_numbers-requires-clause-exponents : goal.run_numbers-requires-clause-exponents
run_numbers-requires-clause-exponents c =
    subst (λ (es : List ℕ). AreExponentsOf (design_of c.args.design.now) c.args.stepped.now.s es) (sym c.deref.ensures.value) c.in_ok-exps.ensures.list

pub run_numbers-requires-clause-curved : goal.run_numbers-requires-clause-curved
run_numbers-requires-clause-curved c =
    subst (λ (es : List ℕ). AreExponents (design_of c.args.design.now) (exponent_in es) c.args.stepped.now.s) (sym c.deref.ensures.value) c.in_ok-exps.ensures.curved

-- ---- the refusals
pub returns-in_err-steps-clause-refused : goal.returns-in_err-steps-clause-refused
returns-in_err-steps-clause-refused c =
    let r : SFits w128 c.args.aim.r = search rules in
    let t : SFits w128 c.args.aim.step_target = search rules in
    let kept = rw (to_z-of_z w128 _ r, to_z-of_z w128 _ t) at c.in_err-steps.ensures in
    refused_by c.from_residual.result _ _ c.from_residual.ensures.1
    (λ e f. inr (steps_refused (design_of c.args.design.now) c.args.aim c.args.stepped.now.s _ (kept.many.0 refl) kept.told e f))

pub returns-in_err-exps-clause-refused : goal.returns-in_err-exps-clause-refused
returns-in_err-exps-clause-refused c = refused_by c.from_residual-in_err-exps.result _ _ c.from_residual-in_err-exps.ensures.1 (λ e f. inl f)

pub returns-in_err-numbers-clause-refused : goal.returns-in_err-numbers-clause-refused
returns-in_err-numbers-clause-refused c =
    refused_by c.from_residual-in_err-numbers.result _ _ c.from_residual-in_err-numbers.ensures.1 (λ e f. rw f (inr c.in_err-numbers.ensures.refused))

-- ---- the run
pub returns-clause-chosen : goal.returns-clause-chosen
returns-clause-chosen c =
    subst (λ (es : List ℕ). AreRunNumbersOf c.args.design.now c.args.aim c.args.stepped.now.s c.in_ok-steps.steps es c.in_ok-numbers.numbers)
    c.deref.ensures.value c.in_ok-numbers.ensures.chosen

-- ---- nothing is chosen on a refusal
pub returns-in_err-steps-clause-chosen : goal.returns-in_err-steps-clause-chosen
returns-in_err-steps-clause-chosen c = absent_of_error c.from_residual.result _ c.from_residual.ensures.0

pub returns-in_err-exps-clause-chosen : goal.returns-in_err-exps-clause-chosen
returns-in_err-exps-clause-chosen c = absent_of_error c.from_residual-in_err-exps.result _ c.from_residual-in_err-exps.ensures.0

pub returns-in_err-numbers-clause-chosen : goal.returns-in_err-numbers-clause-chosen
returns-in_err-numbers-clause-chosen c = absent_of_error c.from_residual-in_err-numbers.result _ c.from_residual-in_err-numbers.ensures.0
