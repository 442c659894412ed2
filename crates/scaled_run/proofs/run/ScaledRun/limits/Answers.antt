use Rattle.enclosure.specs.Values.{pair_at}
use Rattle.qp_model.specs.problem.Parts.{design_of}
use Rattle.qp_model.specs.form.FineForm.{fine_limit}
use Rattle.scaled_run.proofs.ListFacts.{one_pushed, all_held}
use Rattle.scaled_run.proofs.run.ScaledRun.limits.Goals as goal

pub loop-i-preserved : goal.loop-i-preserved
loop-i-preserved c =
    let self = c.args.self.now in
    one_pushed c.loop-i.out.items _ c.limit.result c.loop-i.i (fine_limit (design_of self.parts.now) (pair_at self.start.items) (pair_at self.plan.items)) c.in_ok-push.ensures.items c.limit.ensures c.loop-i.invariant

pub limit_count-i-end-requires : goal.limit_count-i-end-requires
limit_count-i-end-requires c = c.args.self.now.made.ready.design

pub limit-requires-clause-row : goal.limit-requires-clause-row
limit-requires-clause-row c = rw c.limit_count-i-end.ensures at c.loop-i-test.true

pub limit-requires-clause-fits : goal.limit-requires-clause-fits
limit-requires-clause-fits c = c.requires

pub returns : goal.returns
returns c =
    let self = c.args.self.now in
    rw (← c.limit_count-i-end.ensures)
    (all_held c.loop-i.out.items c.loop-i.i _ (λ k. k) (fine_limit (design_of self.parts.now) (pair_at self.start.items) (pair_at self.plan.items)) c.loop-i.auto.i-end c.loop-i-test.false c.loop-i.invariant)
