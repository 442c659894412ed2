use Rattle.std.proofs.Common.{pos, ap, FitsSigned, rules}
use Rattle.std.specs.Int.{w128}
use Rattle.std.proofs.lemmas.Int.{to_z-of_z}
use Rattle.qp_model.specs.machine.Controller.{Numbers}
use Rattle.overflow_check.specs.FastMachine.{all_weights, fast_denominator}
use Rattle.primal_average.proofs.fast_denominator.Goals as goal

pub returns : goal.returns
unfolding all_weights
returns c =
    let fits : FitsSigned w128 c.from.result = search rules in
    let whole : FitsSigned w128 c.scaled.result = search rules in
    rw (to_z-of_z w128 _ whole, c.scaled.ensures, to_z-of_z w128 _ fits, c.from.ensures) (ap (λ (n : Numbers). pos (fast_denominator n)) c.parts-c.ensures.value)
