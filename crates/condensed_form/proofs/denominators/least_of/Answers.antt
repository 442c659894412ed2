use Rattle.std.proofs.Common.{◌≡◌, to_z, rules, FitsSigned}
use Rattle.std.specs.Int.{w128, int_min}
use Rattle.std.proofs.lemmas.Int.{to_z-of_z}
use Rattle.integer_algebra.specs.Sums.{at}
use Rattle.condensed_form.proofs.DenominatorFacts.{least_below, least_met}
use Rattle.condensed_form.proofs.denominators.least_of.Goals as goal

pub loop-number-preserved : goal.loop-number-preserved
loop-number-preserved c =
    let xs = c.args.numbers.now in
    let i = c.loop-number.number-index in
    let l : to_z w128 c.loop-number.least-bits ≡ c.loop-number.least = search rules in
    let m : FitsSigned w128 c.min-least.result = search rules in
    let e : c.min-least.result ≡ int_min c.loop-number.least (at xs i) = search rules in
    let below = rw l at c.loop-number.invariant.0 in
    let met = rw l at c.loop-number.invariant.1 in
    rw (to_z-of_z w128 _ m) (
      least_below xs i c.loop-number.least c.min-least.result e below,
      least_met xs i c.loop-number.least c.min-least.result e c.loop-number-test.true met,
    )
