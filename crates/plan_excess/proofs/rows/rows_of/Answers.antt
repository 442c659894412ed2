use Rattle.std.proofs.Common.{◌<◌, arith}
use Rattle.qp_model.specs.problem.Design.{entries}
use Rattle.qp_model.specs.problem.Parts.{design_of}
use Rattle.qp_model.specs.bounds.Excess.{number_size}
use Rattle.qp_model.proofs.SizeFacts.{greatest_term}
use Rattle.condensed_form.specs.Form.{held}
use Rattle.plan_excess.proofs.FormFacts.{row_pushed, all_rows}
use Rattle.plan_excess.proofs.RoomFacts.{fault_passed, memory_passed, near_more, near_all}
use Rattle.plan_excess.proofs.rows.rows_of.Goals as goal

pub returns-in_err-row-clause-refused : goal.returns-in_err-row-clause-refused
returns-in_err-row-clause-refused c = λ p is.
    let l : c.loop-j.j < entries (design_of p) = omega (arith, c.loop-j-test.true, c.rows-j-end.ensures.count, is.shapes.hess.rows) in
    fault_passed c.from_residual.result _ _ _ c.from_residual.ensures.1 (greatest_term c.loop-j.j (entries (design_of p)) (number_size (design_of p) (held c.args.c.now)) l) (c.in_err-row.ensures.refused p is)

pub returns-in_err-push-clause-refused : goal.returns-in_err-push-clause-refused
returns-in_err-push-clause-refused c = λ p is. memory_passed c.from_residual-in_err-push.result _ c.from_residual-in_err-push.ensures.1

pub loop-j-preserved : goal.loop-j-preserved
loop-j-preserved c = record {
  made = λ p is. row_pushed _ _ c.loop-j.j _ _ _ c.in_ok-push.ensures.items (c.in_ok-row.ensures.value p is) (c.loop-j.invariant.made p is);
  near = λ p is. near_more c.loop-j.j (number_size (design_of p) (held c.args.c.now)) (c.loop-j.invariant.near p is) (c.in_ok-row.ensures.room p is);
}

pub returns-clause-value : goal.returns-clause-value
returns-clause-value c = λ p is.
    all_rows _ _ c.loop-j.j (entries (design_of p)) _ (omega (arith, c.loop-j.auto.j-end, c.rows-j-end.ensures.count, is.shapes.hess.rows)) (omega (arith, c.loop-j-test.false, c.rows-j-end.ensures.count, is.shapes.hess.rows))
    (c.loop-j.invariant.made p is)

pub returns-clause-room : goal.returns-clause-room
returns-clause-room c = λ p is.
    near_all c.loop-j.j (entries (design_of p)) (number_size (design_of p) (held c.args.c.now)) (omega (arith, c.loop-j.auto.j-end, c.rows-j-end.ensures.count, is.shapes.hess.rows))
    (omega (arith, c.loop-j-test.false, c.rows-j-end.ensures.count, is.shapes.hess.rows)) (c.loop-j.invariant.near p is)
