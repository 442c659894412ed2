use Rattle.std.proofs.Common.{unsigned_abs, ◌^◌, arith, refl}
use Rattle.qp_model.specs.problem.Parts.{design_of}
use Rattle.qp_model.specs.form.Class.{form_of}
use Rattle.qp_model.specs.form.FineSizes.{is_fine}
use Rattle.step_error.proofs.SumFacts.{read_size, step_sums}
use Rattle.step_error.proofs.SumAnswers.{valued, named, some_size, size_within, same_form}
use Rattle.step_error.proofs.SameRuns.{held_step, run_resumed, run_given}
use Rattle.step_error.proofs.runs.run_sums.Goals as goal

pub sums_of_run-requires-clause-form : goal.sums_of_run-requires-clause-form
sums_of_run-requires-clause-form c = same_form c.args.c.now _ _ c.parts.ensures.value c.requires.step.form

pub sums_of_run-requires-clause-some : goal.sums_of_run-requires-clause-some
sums_of_run-requires-clause-some c = some_size c.args.r _ (read_size _ _ c.ranges.r c.unsigned_abs.ensures.value) c.requires.some

pub sums_of_run-requires-clause-narrow : goal.sums_of_run-requires-clause-narrow
sums_of_run-requires-clause-narrow c = size_within c.args.r _ (2 ^ 44) (read_size _ _ c.ranges.r c.unsigned_abs.ensures.value) c.requires.some c.requires.narrow

pub sums_of_run-requires-clause-sums : goal.sums_of_run-requires-clause-sums
sums_of_run-requires-clause-sums c =
    let s = c.requires.step in
    step_sums c.args.step.now c.args.design.now (form_of (design_of c.args.design.now)) (unsigned_abs c.args.r) s.form.design s.form.encloses s.bound s.sums s.room

pub sums_of_run-requires-clause-step : goal.sums_of_run-requires-clause-step
sums_of_run-requires-clause-step c =
    let s = c.requires.step in
    (held_step (is_fine (design_of c.args.design.now)) c.args.c.now c.args.step.now c.parts.result.now c.args.design.now c.unsigned_abs.result (unsigned_abs c.args.r)
    s.form c.parts.ensures.value (read_size _ _ c.ranges.r c.unsigned_abs.ensures.value) (s.sums, s.room)).0

pub sums_of_run-requires-clause-room : goal.sums_of_run-requires-clause-room
sums_of_run-requires-clause-room c =
    let s = c.requires.step in
    (held_step (is_fine (design_of c.args.design.now)) c.args.c.now c.args.step.now c.parts.result.now c.args.design.now c.unsigned_abs.result (unsigned_abs c.args.r)
    s.form c.parts.ensures.value (read_size _ _ c.ranges.r c.unsigned_abs.ensures.value) (s.sums, s.room)).1

pub returns-clause-value : goal.returns-clause-value
returns-clause-value c =
    let r = read_size _ _ c.ranges.r c.unsigned_abs.ensures.value in
    rw c.ok_or.ensures.value (valued c.sums_of_run.result _ _ _
    (run_resumed (is_fine (design_of c.args.design.now)) c.args.c.now c.sums_of_run.result c.parts.result.now c.args.design.now c.unsigned_abs.result (unsigned_abs c.args.r) c.args.k c.args.s c.args.exps.now
    c.requires.step.form c.parts.ensures.value r c.sums_of_run.ensures))

pub returns-clause-given : goal.returns-clause-given
returns-clause-given c =
    let r = read_size _ _ c.ranges.r c.unsigned_abs.ensures.value in
    let form = c.requires.step.form in
    rw c.ok_or.ensures.value (run_given c.sums_of_run.result _ c.args.design.now (form_of (design_of c.args.design.now)) (unsigned_abs c.args.r) c.args.k c.args.s c.args.exps.now form.design form.encloses
    (some_size c.args.r _ refl c.requires.some) (omega (arith, c.ranges.k))
    (run_resumed (is_fine (design_of c.args.design.now)) c.args.c.now c.sums_of_run.result c.parts.result.now c.args.design.now c.unsigned_abs.result (unsigned_abs c.args.r) c.args.k c.args.s c.args.exps.now
    form c.parts.ensures.value r c.sums_of_run.ensures))

pub returns-clause-named : goal.returns-clause-named
returns-clause-named c = rw c.ok_or.ensures.value (named c.sums_of_run.result _ refl)

pub sums_of_run-requires-clause-count : goal.sums_of_run-requires-clause-count
sums_of_run-requires-clause-count c = c.requires.count

pub sums_of_run-requires-clause-exponents : goal.sums_of_run-requires-clause-exponents
sums_of_run-requires-clause-exponents c = c.requires.exponents

pub sums_of_run-requires-clause-exponent : goal.sums_of_run-requires-clause-exponent
sums_of_run-requires-clause-exponent c = c.requires.exponent
