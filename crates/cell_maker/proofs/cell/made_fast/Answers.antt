use Rattle.std.proofs.Common.{refl, true}
use Rattle.qp_model.specs.problem.Policy.{plans_of}
use Rattle.cell_maker.proofs.CellDesigns.{by_ok, by_err}
use Rattle.cell_maker.proofs.cell.made_fast.Goals as goal

pub returns-in-Ok : goal.returns-in-Ok
returns-in-Ok c =
    let is = c.in-Ok.ensures in
    by_ok true c.args.design.now (plans_of c.args.policy.now) _ is.every_refusal c.in-Ok.made _ refl
    (record { machine = refl; built = is.built; certified = is.certified; targets = is.targets })

pub returns-in-Err : goal.returns-in-Err
returns-in-Err c =
    let is = c.in-Err.ensures in
    by_err true c.args.design.now (plans_of c.args.policy.now) _ is.every_refusal c.in-Err.refusal refl is.refused (λ h. is.accepted h.0 h.1 h.3.0 h.3.1 h.2 h.3.2)
