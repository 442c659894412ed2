use Rattle.std.proofs.Common.{ℕ, inl, refl, List, sym, subst, rules}
use Rattle.std.specs.Int.{w128}
use Rattle.std.proofs.lemmas.Int.{to_z-of_z}
use mir.Val.{SFits}
use Rattle.qp_model.specs.problem.Parts.{design_of}
use Rattle.qp_model.specs.form.Curvature.{AreExponents}
use Rattle.hessian_check.specs.RowExponents.{exponent_in, AreExponentsOf}
use Rattle.design_engine.proofs.AnswerLaws.{absent_of_error, ok_of_error}
use Rattle.design_engine.proofs.RefusalFacts.{refused_by, solve_refused, width_refused}
use Rattle.design_engine.proofs.TargetLaws.{steps_some}
use Rattle.design_engine.proofs.GenerationFacts.{size_kept, kept_least}
use Rattle.design_engine.proofs.BuiltFacts.{exponent_small, exponents_listed, assembled_with}
use Rattle.design_engine.proofs.aimed.controller_by.Goals as goal

-- ---- the gains, and the exponents of the rows
pub solve_all-requires-clause-form : goal.solve_all-requires-clause-form
solve_all-requires-clause-form c = record { parts = c.args.design.now; form = c.requires.stepped.form }

pub solve_all-requires-clause-bits : goal.solve_all-requires-clause-bits
solve_all-requires-clause-bits c = c.requires.chosen.passes.choice.to

pub row_exponents-requires-clause-form : goal.row_exponents-requires-clause-form
row_exponents-requires-clause-form c = c.requires.stepped.form

pub row_exponents-requires-clause-chosen : goal.row_exponents-requires-clause-chosen
row_exponents-requires-clause-chosen c = c.requires.stepped.exponent

pub row_exponents-requires-clause-curved : goal.row_exponents-requires-clause-curved
row_exponents-requires-clause-curved c = c.requires.stepped.curved

pub returns-in_err-gains-clause-refused : goal.returns-in_err-gains-clause-refused
returns-in_err-gains-clause-refused c =
    refused_by c.from_residual.result _ _ c.from_residual.ensures.1
    (solve_refused (design_of c.args.design.now) c.args.aim c.args.stepped.now.s c.args.chosen.now.choice.f c.requires.chosen.passes _ (c.in_err-gains.ensures.wide _ c.requires.stepped.form))

pub returns-in_default-clause-refused : goal.returns-in_default-clause-refused
returns-in_default-clause-refused c = inl refl

-- ---- the controller
pub controller_of-requires-clause-form : goal.controller_of-requires-clause-form
controller_of-requires-clause-form c = c.requires.stepped.form

pub controller_of-requires-clause-bits : goal.controller_of-requires-clause-bits
controller_of-requires-clause-bits c = (c.requires.chosen.passes.choice.from, c.requires.chosen.passes.choice.to)

pub controller_of-requires-clause-low : goal.controller_of-requires-clause-low
controller_of-requires-clause-low c =
    let r : SFits w128 c.args.aim.r = search rules in
    rw (to_z-of_z w128 _ r) c.requires.aim.some

pub controller_of-requires-clause-high : goal.controller_of-requires-clause-high
controller_of-requires-clause-high c =
    let r : SFits w128 c.args.aim.r = search rules in
    rw (to_z-of_z w128 _ r) c.requires.aim.narrow

pub controller_of-requires-clause-exponent : goal.controller_of-requires-clause-exponent
controller_of-requires-clause-exponent c = exponent_small (design_of c.args.design.now) _ (c.requires.stepped.exponent c.args.design.now c.requires.stepped.form)

pub controller_of-requires-clause-exponents : goal.controller_of-requires-clause-exponents
controller_of-requires-clause-exponents c = exponents_listed (design_of c.args.design.now) _ _ c.in-Ok.ensures.list

pub controller_of-requires-clause-gains : goal.controller_of-requires-clause-gains
controller_of-requires-clause-gains c = c.in_ok-gains.ensures.solved _ c.requires.stepped.form

pub controller_of-requires-clause-room : goal.controller_of-requires-clause-room
controller_of-requires-clause-room c = c.in_ok-gains.ensures.fits _ c.requires.stepped.form

pub controller_of-requires-clause-steps : goal.controller_of-requires-clause-steps
controller_of-requires-clause-steps c =
    let some = steps_some c.args.stepped.now.s _ _ (kept_least c.args.aim.r c.requires.aim.some) (kept_least c.args.aim.step_target c.requires.aim.steps) in
    (rw c.requires.chosen.steps some, rw c.requires.chosen.steps c.requires.chosen.passes.steps)

pub returns-in_err-controller_of-clause-refused : goal.returns-in_err-controller_of-clause-refused
returns-in_err-controller_of-clause-refused c =
    let r : SFits w128 c.args.aim.r = search rules in
    let kept = rw (to_z-of_z w128 _ r) at c.in_err-controller_of.ensures.wide in
    refused_by c.from_residual-in_err-controller_of.result _ _ c.from_residual-in_err-controller_of.ensures.1
    (width_refused (design_of c.args.design.now) c.args.aim c.args.stepped.now.s c.args.chosen.now.choice.f _ c.requires.chosen.passes (c.in_ok-gains.ensures.fits _ c.requires.stepped.form)
    c.requires.chosen.steps _ kept)

pub returns-clause-made : goal.returns-clause-made
returns-clause-made c =
    let r : SFits w128 c.args.aim.r = search rules in
    assembled_with (design_of c.args.design.now) _ _ _ _ _ _ _ (size_kept c.args.aim.r r) c.in_ok-controller_of.ensures.made

pub returns-clause-exponents : goal.returns-clause-exponents
returns-clause-exponents c =
    subst (λ (es : List ℕ). AreExponentsOf (design_of c.args.design.now) c.args.stepped.now.s es) (sym c.in_ok-controller_of.ensures.made.exponents) c.in-Ok.ensures.list

pub returns-clause-curved : goal.returns-clause-curved
returns-clause-curved c =
    subst (λ (es : List ℕ). AreExponents (design_of c.args.design.now) (exponent_in es) c.args.stepped.now.s) (sym c.in_ok-controller_of.ensures.made.exponents) c.in-Ok.ensures.curved

pub returns-clause-passes : goal.returns-clause-passes
returns-clause-passes c =
    let r : SFits w128 c.args.aim.r = search rules in
    let kept = rw (to_z-of_z w128 _ r) at c.in_ok-controller_of.ensures.fits in
    record { before = c.requires.chosen.passes; descent = c.in_ok-gains.ensures.fits _ c.requires.stepped.form; width = rw c.requires.chosen.steps at kept }

-- ---- nothing is made on a refusal
pub returns-in_err-gains-clause-sound : goal.returns-in_err-gains-clause-sound
returns-in_err-gains-clause-sound c = absent_of_error c.from_residual.result _ c.from_residual.ensures.0

pub returns-in_err-gains-clause-made : goal.returns-in_err-gains-clause-made
returns-in_err-gains-clause-made c = absent_of_error c.from_residual.result _ c.from_residual.ensures.0

pub returns-in_err-gains-clause-exponents : goal.returns-in_err-gains-clause-exponents
returns-in_err-gains-clause-exponents c = absent_of_error c.from_residual.result _ c.from_residual.ensures.0

pub returns-in_err-gains-clause-curved : goal.returns-in_err-gains-clause-curved
returns-in_err-gains-clause-curved c = absent_of_error c.from_residual.result _ c.from_residual.ensures.0

pub returns-in_err-gains-clause-passes : goal.returns-in_err-gains-clause-passes
returns-in_err-gains-clause-passes c = ok_of_error c.from_residual.result _ c.from_residual.ensures.0

pub returns-in_default-clause-sound : goal.returns-in_default-clause-sound
returns-in_default-clause-sound c = tt

pub returns-in_default-clause-made : goal.returns-in_default-clause-made
returns-in_default-clause-made c = tt

pub returns-in_default-clause-exponents : goal.returns-in_default-clause-exponents
returns-in_default-clause-exponents c = tt

pub returns-in_default-clause-curved : goal.returns-in_default-clause-curved
returns-in_default-clause-curved c = tt

pub returns-in_default-clause-passes : goal.returns-in_default-clause-passes
returns-in_default-clause-passes c = tt

pub returns-in_err-controller_of-clause-sound : goal.returns-in_err-controller_of-clause-sound
returns-in_err-controller_of-clause-sound c = absent_of_error c.from_residual-in_err-controller_of.result _ c.from_residual-in_err-controller_of.ensures.0

pub returns-in_err-controller_of-clause-made : goal.returns-in_err-controller_of-clause-made
returns-in_err-controller_of-clause-made c = absent_of_error c.from_residual-in_err-controller_of.result _ c.from_residual-in_err-controller_of.ensures.0

pub returns-in_err-controller_of-clause-exponents : goal.returns-in_err-controller_of-clause-exponents
returns-in_err-controller_of-clause-exponents c = absent_of_error c.from_residual-in_err-controller_of.result _ c.from_residual-in_err-controller_of.ensures.0

pub returns-in_err-controller_of-clause-curved : goal.returns-in_err-controller_of-clause-curved
returns-in_err-controller_of-clause-curved c = absent_of_error c.from_residual-in_err-controller_of.result _ c.from_residual-in_err-controller_of.ensures.0

pub returns-in_err-controller_of-clause-passes : goal.returns-in_err-controller_of-clause-passes
returns-in_err-controller_of-clause-passes c = ok_of_error c.from_residual-in_err-controller_of.result _ c.from_residual-in_err-controller_of.ensures.0

pub returns-clause-sound : goal.returns-clause-sound
returns-clause-sound c = search rules

pub returns-clause-refused : goal.returns-clause-refused
returns-clause-refused c = tt
