use Rattle.std.proofs.Common.{sym, ◌∙◌}
use Rattle.std.proofs.lemmas.Result.{IfOk-weaker}
use Rattle.qp_model.specs.problem.Parts.{design_of}
use Rattle.hessian_check.proofs.LoweringLaws.{exponent_small, tested_fits, tested_room, tested_sound, tested_told}
use Rattle.hessian_check.proofs.row_exponents.is_list_accepted.Goals as goal

pub row_matrix-requires-clause-square : goal.row_matrix-requires-clause-square
row_matrix-requires-clause-square c = let sums = c.requires.tested.sums in sums.mids.cols ∙ sym sums.mids.rows

pub row_matrix-requires-clause-room : goal.row_matrix-requires-clause-room
row_matrix-requires-clause-room c =
    let form = c.requires.form in
    let t = c.requires.tested in
    tested_room form.parts c.args.c.now form.form c.args.s t.before t.ready t.exponent t.low c.args.sums.now.mid c.args.sums.now.rad t.sums

pub invariant_of-matrices : goal.invariant_of-matrices
invariant_of-matrices c =
    let form = c.requires.form in
    let t = c.requires.tested in
    let sums = c.args.sums.now in
    record {
      sound = tested_sound form.parts c.args.c.now form.form c.args.s t.before t.ready t.exponent t.low sums.mid sums.rad t.sums sums.sound
          c.in_ok-matrices.field-0 c.in_ok-matrices.ensures c.args.matrices.now (c.requires.cost form.parts form.form);
    }

pub is_accepted-requires-clause-small : goal.is_accepted-requires-clause-small
is_accepted-requires-clause-small c =
    let form = c.requires.form in
    exponent_small (design_of form.parts) c.args.s (c.requires.tested.ready.chosen form.parts form.form)

pub is_accepted-requires-clause-room : goal.is_accepted-requires-clause-room
is_accepted-requires-clause-room c =
    let form = c.requires.form in
    let t = c.requires.tested in
    let sums = c.args.sums.now in
    tested_fits form.parts c.args.c.now form.form c.args.s t.before t.ready t.exponent t.low sums.mid sums.rad t.sums sums.sound
    c.in_ok-matrices.field-0 c.in_ok-matrices.ensures c.args.matrices.now (c.requires.cost form.parts form.form)

pub returns-in_err-matrices-clause-cost : goal.returns-in_err-matrices-clause-cost
returns-in_err-matrices-clause-cost c = c.requires.cost

pub returns-clause-cost : goal.returns-clause-cost
returns-clause-cost c = λ p f. let is = c.requires.cost p f in record { cost = is.cost; cost_factor = is.cost_factor; row_factor = is.row_factor }

pub returns-clause-accepted : goal.returns-clause-accepted
returns-clause-accepted c = λ t p f.
    let sums = c.args.sums.now in
    IfOk-weaker c.is_accepted.result _ _
    (tested_told p c.args.c.now f c.args.s t.before t.ready t.exponent t.low sums.mid sums.rad t.sums sums.sound
    c.in_ok-matrices.field-0 c.in_ok-matrices.ensures c.args.matrices.now (c.requires.cost p f)) c.is_accepted.ensures
