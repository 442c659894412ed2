use Rattle.std.proofs.Common.{◌+◌, ◌*◌, arith}
use Rattle.step_error.proofs.Ceilings.{quotient_is}
use Rattle.step_error.proofs.means.carry_of.Goals as goal

pub returns-clause-value : goal.returns-clause-value
returns-clause-value c =
    let k = c.args.k in
    quotient_is _ _ _ ((k + 1) * (k + 5)) (3 * (k + 3)) (omega arith) c.div_ceil.ensures (λ i. (c.from-steps.ensures i + 1) * (c.from-steps.ensures i + 5)) (λ i. 3 * (c.from-steps.ensures i + 3))
