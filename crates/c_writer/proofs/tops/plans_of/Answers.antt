use Rattle.std.proofs.Common.{sym}
use Rattle.qp_model.specs.machine.Controller.{numbers}
use Rattle.c_writer.proofs.Held.{weights_fit}
use Rattle.c_writer.proofs.tops.plans_of.Goals as goal

pub returns-in-Accelerated-clause-value : goal.returns-in-Accelerated-clause-value
returns-in-Accelerated-clause-value c =
    let n = numbers c.args.from.now.c.now in
    let sized = (c.args.from.now.fast c.in-Accelerated.is).form.sized in
    rw (c.from.ensures, c.from-in-Accelerated.ensures, c.in-Accelerated.is) (sym (weights_fit n.steps sized.steps.0 sized.steps.1).2)
