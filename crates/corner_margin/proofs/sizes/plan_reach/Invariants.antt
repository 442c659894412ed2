use Rattle.std.proofs.Common.{◌≡◌, ◌+◌, ◌*◌, ◌^◌, unsigned_abs}
use Rattle.integer_algebra.specs.Division.{ceil_div}
use Rattle.integer_algebra.specs.Sums.{at}
use Rattle.qp_model.specs.form.Quantities.{greatest}
use Rattle.corner_margin.proofs.sizes.plan_reach.Given as goal

abbrev pub invariant-loop-number : goal.invariant-loop-number
invariant-loop-number l = l.most ≡ greatest l.number-index (λ j. ceil_div (2 ^ 40 * unsigned_abs (at l.numerators j)) l.over + 2)
