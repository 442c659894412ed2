use Rattle.std.proofs.Common.{◌*◌, ◌^◌, ◌<◌, pos, arith, ap, ◌∙◌, FitsSigned, rules}
use Rattle.std.specs.Int.{w128}
use Rattle.std.proofs.lemmas.Int.{to_z-of_z, fits_signed_from_abs}
use Rattle.std.proofs.lemmas.Nat.{mul-lt, pow_below}
use Rattle.qp_model.specs.machine.Controller.{Numbers}
use Rattle.qp_model.specs.machine.Machine.{average_denominator}
use Rattle.primal_average.proofs.denominator.Goals as goal

pub scaled-requires-clause-fits : goal.scaled-requires-clause-fits
scaled-requires-clause-fits c =
    let sized = c.parts-c.ensures.sound.form.sized in
    let fits : FitsSigned w128 c.from.result = search rules in
    let small : c.parts-c.result.now.steps * 2 ^ c.parts-c.result.now.f < 2 ^ 23 * 2 ^ 49 =
    mul-lt c.parts-c.result.now.steps (2 ^ c.parts-c.result.now.f) (2 ^ 23) (2 ^ 49) (omega (arith, sized.steps)) (pow_below c.parts-c.result.now.f 49 (omega (arith, sized.fraction_bits))) in
    rw (to_z-of_z w128 _ fits, c.from.ensures) (fits_signed_from_abs w128 _ (omega (arith, small)))

pub returns : goal.returns
returns c =
    let fits : FitsSigned w128 c.from.result = search rules in
    let whole : FitsSigned w128 c.scaled.result = search rules in
    rw (to_z-of_z w128 _ whole, c.scaled.ensures, to_z-of_z w128 _ fits, c.from.ensures)
    (ap (λ (n : Numbers). pos (average_denominator n)) (c.parts-c.ensures.value ∙ c.controller.ensures.value))
