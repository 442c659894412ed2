use Rattle.std.proofs.Common.{unsigned_abs, ◌^◌, refl}
use Rattle.qp_model.specs.problem.Parts.{design_of}
use Rattle.qp_model.specs.form.Class.{form_of}
use Rattle.qp_model.specs.form.FineSizes.{is_fine}
use Rattle.step_error.proofs.SumFacts.{read_size}
use Rattle.step_error.proofs.SumAnswers.{valued, given, named, some_size, size_within, resumed, same_form}
use Rattle.step_error.proofs.sums.error_sums.Goals as goal

pub sums_of-requires-clause-form : goal.sums_of-requires-clause-form
sums_of-requires-clause-form c = same_form c.args.c.now _ _ c.parts.ensures.value c.requires.form

pub sums_of-requires-clause-some : goal.sums_of-requires-clause-some
sums_of-requires-clause-some c = some_size c.args.r _ (read_size _ _ c.ranges.r c.unsigned_abs.ensures.value) c.requires.some

pub sums_of-requires-clause-narrow : goal.sums_of-requires-clause-narrow
sums_of-requires-clause-narrow c = size_within c.args.r _ (2 ^ 44) (read_size _ _ c.ranges.r c.unsigned_abs.ensures.value) c.requires.some c.requires.narrow

pub returns-clause-value : goal.returns-clause-value
returns-clause-value c =
    let r = read_size _ _ c.ranges.r c.unsigned_abs.ensures.value in
    rw c.ok_or.ensures.value (valued c.sums_of.result _ _ _
    (resumed (is_fine (design_of c.args.design.now)) c.args.c.now c.sums_of.result c.parts.result.now c.args.design.now c.unsigned_abs.result (unsigned_abs c.args.r) c.requires.form c.parts.ensures.value r c.sums_of.ensures))

pub returns-clause-given : goal.returns-clause-given
returns-clause-given c =
    let r = read_size _ _ c.ranges.r c.unsigned_abs.ensures.value in
    rw c.ok_or.ensures.value (given c.sums_of.result _ c.args.design.now (form_of (design_of c.args.design.now)) (unsigned_abs c.args.r) c.requires.form.design c.requires.form.encloses (some_size c.args.r _ refl c.requires.some)
    (resumed (is_fine (design_of c.args.design.now)) c.args.c.now c.sums_of.result c.parts.result.now c.args.design.now c.unsigned_abs.result (unsigned_abs c.args.r) c.requires.form c.parts.ensures.value r c.sums_of.ensures))

pub returns-clause-named : goal.returns-clause-named
returns-clause-named c = rw c.ok_or.ensures.value (named c.sums_of.result _ refl)
