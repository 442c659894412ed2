use Rattle.std.proofs.Common.{Bool, subst, sym}
use Rattle.qp_model.specs.problem.Policy.{plans_of}
use Rattle.cell_maker.specs.Made.{GeneratesBy}
use Rattle.cell_maker.proofs.cell.made_by.Goals as goal

pub returns-then-fast : goal.returns-then-fast
returns-then-fast c =
    subst (λ (fast : Bool). GeneratesBy fast c.args.design.now (plans_of c.args.policy.now) c.made_fast.result) (sym c.if-fast.true) c.made_fast.ensures

pub returns-else-fast : goal.returns-else-fast
returns-else-fast c =
    subst (λ (fast : Bool). GeneratesBy fast c.args.design.now (plans_of c.args.policy.now) c.made_plainly.result) (sym c.if-fast.false) c.made_plainly.ensures
