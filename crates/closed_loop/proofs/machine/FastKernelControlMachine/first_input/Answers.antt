use Rattle.std.proofs.Common.{◌∙◌, length, ap, arith}
use Rattle.qp_model.specs.machine.Controller.{Numbers}
use Rattle.closed_loop.proofs.Sound.{fast_sums_length}
use Rattle.closed_loop.proofs.machine.FastKernelControlMachine.first_input.Goals as goal

pub bounds-sums-l : goal.bounds-sums-l
bounds-sums-l c =
    let k = c.args.self.now in
    let long = ap length c.sums.ensures ∙ fast_sums_length k.controller k.state k.made in
    omega (arith, c.if-prove.false, long, ap (λ (n : Numbers). length n.offsets) c.parts-c.ensures.value)
