use Rattle.std.proofs.Common.{rules}
use Rattle.std.specs.Int.{w128}
use Rattle.std.proofs.lemmas.Int.{to_z-of_z}
use mir.Val.{SFits}
use Rattle.qp_model.specs.problem.Parts.{design_of}
use Rattle.lean_engine.proofs.Engine.AnswerLaws.{absent_of_error, ok_of_error}
use Rattle.lean_engine.proofs.Engine.RefusalFacts.{refused_by}
use Rattle.lean_engine.proofs.Engine.GenerationFacts.{size_kept}
use Rattle.lean_engine.proofs.Engine.BuiltFacts.{exponent_small}
use Rattle.fast_bounds.proofs.FastAssembled.{solve_refused, width_refused, exponents_held, made_from}
use Rattle.fast_bounds.proofs.controller.fast_controller_with.Goals as goal

-- ---- the gains
pub solve_all-requires-clause-form : goal.solve_all-requires-clause-form
solve_all-requires-clause-form c = record { parts = c.args.design.now; form = c.requires.stepped.form }

pub solve_all-requires-clause-bits : goal.solve_all-requires-clause-bits
solve_all-requires-clause-bits c = c.requires.chosen.choice.to

pub returns-in_err-gains-clause-refused : goal.returns-in_err-gains-clause-refused
returns-in_err-gains-clause-refused c =
    refused_by c.from_residual.result _ _ c.from_residual.ensures.1
    (solve_refused (design_of c.args.design.now) c.args.aim c.args.stepped.now.s _ _ _ c.requires.chosen _ (c.in_err-gains.ensures.wide _ c.requires.stepped.form))

-- ---- the controller
pub fast_controller_of-requires-clause-form : goal.fast_controller_of-requires-clause-form
fast_controller_of-requires-clause-form c = c.requires.stepped.form

pub fast_controller_of-requires-clause-bits : goal.fast_controller_of-requires-clause-bits
fast_controller_of-requires-clause-bits c = (c.requires.chosen.choice.from, c.requires.chosen.choice.to)

pub fast_controller_of-requires-clause-low : goal.fast_controller_of-requires-clause-low
fast_controller_of-requires-clause-low c =
    let r : SFits w128 c.args.aim.r = search rules in
    rw (to_z-of_z w128 _ r) c.requires.aim.some

pub fast_controller_of-requires-clause-high : goal.fast_controller_of-requires-clause-high
fast_controller_of-requires-clause-high c =
    let r : SFits w128 c.args.aim.r = search rules in
    rw (to_z-of_z w128 _ r) c.requires.aim.narrow

pub fast_controller_of-requires-clause-exponent : goal.fast_controller_of-requires-clause-exponent
fast_controller_of-requires-clause-exponent c = exponent_small (design_of c.args.design.now) _ (c.requires.stepped.exponent c.args.design.now c.requires.stepped.form)

pub fast_controller_of-requires-clause-exponents : goal.fast_controller_of-requires-clause-exponents
fast_controller_of-requires-clause-exponents c = exponents_held (design_of c.args.design.now) _ _ c.requires.chosen.exponents

pub fast_controller_of-requires-clause-gains : goal.fast_controller_of-requires-clause-gains
fast_controller_of-requires-clause-gains c = c.in_ok-gains.ensures.solved _ c.requires.stepped.form

pub fast_controller_of-requires-clause-room : goal.fast_controller_of-requires-clause-room
fast_controller_of-requires-clause-room c = c.in_ok-gains.ensures.fits _ c.requires.stepped.form

pub fast_controller_of-requires-clause-steps : goal.fast_controller_of-requires-clause-steps
fast_controller_of-requires-clause-steps c = (c.requires.chosen.steps.some, c.requires.chosen.few)

pub returns-in_err-fast_controller_of-clause-refused : goal.returns-in_err-fast_controller_of-clause-refused
returns-in_err-fast_controller_of-clause-refused c =
    let r : SFits w128 c.args.aim.r = search rules in
    let kept = rw (to_z-of_z w128 _ r) at c.in_err-fast_controller_of.ensures.wide in
    refused_by c.from_residual-in_err-fast_controller_of.result _ _ c.from_residual-in_err-fast_controller_of.ensures.1
    (width_refused (design_of c.args.design.now) c.args.aim c.args.stepped.now.s _ _ _ c.requires.chosen (c.in_ok-gains.ensures.fits _ c.requires.stepped.form) _ kept)

pub returns-clause-made : goal.returns-clause-made
returns-clause-made c =
    let p = c.args.design.now in
    let r : SFits w128 c.args.aim.r = search rules in
    made_from p c.args.aim c.in_ok-fast_controller_of.field-0 c.args.stepped.now.s _ _ _ _ c.requires.stepped.form.design c.requires.stepped.form.sizes.cost_room
    (c.requires.stepped.exponent p c.requires.stepped.form) c.requires.chosen (search rules) (size_kept c.args.aim.r r) c.in_ok-fast_controller_of.ensures.made

pub returns-clause-assembled : goal.returns-clause-assembled
returns-clause-assembled c =
    let r : SFits w128 c.args.aim.r = search rules in
    rw (to_z-of_z w128 _ r) at c.in_ok-fast_controller_of.ensures.made

pub returns-clause-passes : goal.returns-clause-passes
returns-clause-passes c =
    let r : SFits w128 c.args.aim.r = search rules in
    let chosen = c.requires.chosen in
    record {
      steps = chosen.steps;
      few = chosen.few;
      exponents = chosen.exponents;
      error = chosen.error;
      choice = chosen.choice;
      descent = c.in_ok-gains.ensures.fits _ c.requires.stepped.form;
      width = rw (to_z-of_z w128 _ r) at c.in_ok-fast_controller_of.ensures.fits;
    }

-- ---- nothing is made on a refusal
pub returns-in_err-gains-clause-made : goal.returns-in_err-gains-clause-made
returns-in_err-gains-clause-made c = absent_of_error c.from_residual.result _ c.from_residual.ensures.0

pub returns-in_err-gains-clause-assembled : goal.returns-in_err-gains-clause-assembled
returns-in_err-gains-clause-assembled c = absent_of_error c.from_residual.result _ c.from_residual.ensures.0

pub returns-in_err-gains-clause-passes : goal.returns-in_err-gains-clause-passes
returns-in_err-gains-clause-passes c = ok_of_error c.from_residual.result _ c.from_residual.ensures.0

pub returns-in_err-fast_controller_of-clause-made : goal.returns-in_err-fast_controller_of-clause-made
returns-in_err-fast_controller_of-clause-made c = absent_of_error c.from_residual-in_err-fast_controller_of.result _ c.from_residual-in_err-fast_controller_of.ensures.0

pub returns-in_err-fast_controller_of-clause-assembled : goal.returns-in_err-fast_controller_of-clause-assembled
returns-in_err-fast_controller_of-clause-assembled c =
    absent_of_error c.from_residual-in_err-fast_controller_of.result _ c.from_residual-in_err-fast_controller_of.ensures.0

pub returns-in_err-fast_controller_of-clause-passes : goal.returns-in_err-fast_controller_of-clause-passes
returns-in_err-fast_controller_of-clause-passes c = ok_of_error c.from_residual-in_err-fast_controller_of.result _ c.from_residual-in_err-fast_controller_of.ensures.0
