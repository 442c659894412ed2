use Rattle.std.proofs.Common.{FitsSigned, rules, refl}
use Rattle.std.specs.Int.{w128}
use Rattle.std.proofs.lemmas.Int.{to_z-of_z}
use Rattle.overflow_check.specs.FastMachine.{all_weights}
use Rattle.overflow_check.proofs.absolute_sums.weights_of.Goals as goal

pub returns-in-Accelerated : goal.returns-in-Accelerated
unfolding all_weights
returns-in-Accelerated c =
    let f : FitsSigned w128 c.args.c.now.clamp = search rules in
    rw (c.in-Accelerated.is, c.unsigned_abs-clamp.ensures.value, to_z-of_z w128 _ f, c.from-steps.ensures) refl
