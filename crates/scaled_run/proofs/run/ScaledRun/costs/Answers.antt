use Rattle.enclosure.specs.Values.{pair_at}
use Rattle.qp_model.specs.problem.Parts.{design_of}
use Rattle.qp_model.specs.form.FineForm.{fine_cost}
use Rattle.scaled_run.proofs.ListFacts.{one_pushed, all_held}
use Rattle.scaled_run.proofs.run.ScaledRun.costs.Goals as goal

pub loop-c-preserved : goal.loop-c-preserved
loop-c-preserved c =
    let self = c.args.self.now in
    one_pushed c.loop-c.out.items _ c.cost.result c.loop-c.c (fine_cost (design_of self.parts.now) (pair_at self.start.items) (pair_at self.plan.items)) c.in_ok-push.ensures.items c.cost.ensures c.loop-c.invariant

pub cost_count-c-end-requires : goal.cost_count-c-end-requires
cost_count-c-end-requires c = c.args.self.now.made.ready.design

pub cost-requires-clause-row : goal.cost-requires-clause-row
cost-requires-clause-row c = rw c.cost_count-c-end.ensures at c.loop-c-test.true

pub cost-requires-clause-fits : goal.cost-requires-clause-fits
cost-requires-clause-fits c = c.requires

pub returns : goal.returns
returns c =
    let self = c.args.self.now in
    rw (← c.cost_count-c-end.ensures)
    (all_held c.loop-c.out.items c.loop-c.c _ (λ k. k) (fine_cost (design_of self.parts.now) (pair_at self.start.items) (pair_at self.plan.items)) c.loop-c.auto.c-end c.loop-c-test.false c.loop-c.invariant)
