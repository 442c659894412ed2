use Rattle.std.proofs.Common.{◌∙◌, length, ap, arith}
use Rattle.qp_model.specs.machine.Controller.{Numbers}
use Rattle.qp_model.specs.machine.Machine.{loaded}
use Rattle.overflow_check.proofs.Runs.{after_sums_length}
use Rattle.primal_average.proofs.first_input.Goals as goal

pub bounds-sums-l : goal.bounds-sums-l
bounds-sums-l c =
    let k = c.args.k.now in
    let long = ap length c.sums.ensures.value ∙ after_sums_length k.controller (loaded k.controller k.state) k.made in
    omega (arith, c.if-prove.false, long, ap (λ (n : Numbers). length n.offsets) (c.parts-c.ensures.value ∙ c.controller.ensures.value))
