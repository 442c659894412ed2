use Rattle.std.proofs.lemmas.Result.{IfOk-weaker}
use Rattle.qp_model.specs.form.FineSizes.{is_fine}
use Rattle.qp_model.specs.problem.Parts.{design_of}
use Rattle.hessian_check.proofs.LoweringLaws.{lowered_room, sums_to_test, shift_is}
use Rattle.hessian_check.proofs.RowMatrices.{form_enclosures}
use Rattle.hessian_check.proofs.row_exponents.try_lower.Goals as goal

pub with_row-requires-clause-enclosures : goal.with_row-requires-clause-enclosures
with_row-requires-clause-enclosures c = form_enclosures (is_fine (design_of c.requires.form.parts)) c.requires.form.parts c.args.c.now c.requires.form.form

pub with_row-requires-clause-room : goal.with_row-requires-clause-room
with_row-requires-clause-room c =
    let form = c.requires.form in
    let k = c.args.k in
    let sums = c.args.sums.now in
    lowered_room form.parts c.args.c.now form.form c.args.s c.args.before.now c.requires.ready k c.requires.small c.requires.below sums.mid sums.rad c.requires.sums _ (shift_is k c.requires.small)

pub is_list_accepted-accepted-requires-clause-form : goal.is_list_accepted-accepted-requires-clause-form
is_list_accepted-accepted-requires-clause-form c = c.requires.form

pub is_list_accepted-accepted-requires-clause-tested : goal.is_list_accepted-accepted-requires-clause-tested
is_list_accepted-accepted-requires-clause-tested c =
    let form = c.requires.form in
    let q = c.requires in
    sums_to_test form.parts c.args.c.now form.form c.args.s c.args.before.now q.ready c.args.k q.small q.below c.args.sums.now q.sums _ (shift_is c.args.k q.small) c.in_ok-more.more c.in_ok-more.ensures

pub is_list_accepted-accepted-requires-clause-cost : goal.is_list_accepted-accepted-requires-clause-cost
is_list_accepted-accepted-requires-clause-cost c = c.requires.cost

pub returns-in_err-more-clause-cost : goal.returns-in_err-more-clause-cost
returns-in_err-more-clause-cost c = c.requires.cost

pub returns-clause-cost : goal.returns-clause-cost
returns-clause-cost c = c.is_list_accepted-accepted.ensures.cost

pub returns-clause-accepted : goal.returns-clause-accepted
returns-clause-accepted c = λ p f.
    let q = c.requires in
    let t = sums_to_test p c.args.c.now f c.args.s c.args.before.now q.ready c.args.k q.small q.below c.args.sums.now q.sums _ (shift_is c.args.k q.small) c.in_ok-more.more c.in_ok-more.ensures in
    rw c.put_accepted.ensures.same (c.is_list_accepted-accepted.ensures.accepted t p f)

pub returns-clause-lowered : goal.returns-clause-lowered
returns-clause-lowered c =
    let form = c.requires.form in
    let q = c.requires in
    let t = sums_to_test form.parts c.args.c.now form.form c.args.s c.args.before.now q.ready c.args.k q.small q.below c.args.sums.now q.sums _ (shift_is c.args.k q.small) c.in_ok-more.more c.in_ok-more.ensures in
    IfOk-weaker c.put_accepted.result _ _ (λ yes put h. rw (put h) t.sums) c.put_accepted.ensures.put

pub returns-clause-refused : goal.returns-clause-refused
returns-clause-refused c = c.put_accepted.ensures.left
