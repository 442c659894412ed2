use Rattle.std.proofs.Common.{◌<◌, length, arith}
use Rattle.integer_algebra.proofs.SizeLaws.{amount_next, amount_term}
use Rattle.step_error.specs.ErrorSums.{farthest_entry}
use Rattle.step_error.proofs.SumFacts.{through}
use Rattle.step_error.proofs.means.column_sum.Goals as goal

pub farthest_at-requires-clause-small : goal.farthest_at-requires-clause-small
farthest_at-requires-clause-small c =
    let a = c.args in
    let inside : c.loop-i.i < length a.exps.now = omega arith in
    through (amount_term c.loop-i.i (length a.exps.now) (λ i. farthest_entry a.rows.now a.radii.now i a.j) inside) c.requires.small

pub added-sum-requires-clause-whole : goal.added-sum-requires-clause-whole
added-sum-requires-clause-whole c =
    let a = c.args in
    let inside : c.loop-i.i < length a.exps.now = omega arith in
    omega (arith, amount_next c.loop-i.i (length a.exps.now) (λ i. farthest_entry a.rows.now a.radii.now i a.j) inside, c.farthest_at.ensures, c.loop-i.invariant.whole, c.requires.small)

pub farthest_at-requires-clause-pair : goal.farthest_at-requires-clause-pair
farthest_at-requires-clause-pair c = c.requires.pair

pub added-sum-requires-clause-exponent : goal.added-sum-requires-clause-exponent
added-sum-requires-clause-exponent c = c.requires.exponent
