use Rattle.std.proofs.Common.{◌<◌, length, arith}
use Rattle.integer_algebra.proofs.SizeLaws.{amount_next, amount_term}
use Rattle.step_error.specs.ErrorSums.{farthest_entry}
use Rattle.step_error.proofs.radii.farthest_diagonal.Goals as goal

pub farthest_at-sum-requires-clause-small : goal.farthest_at-sum-requires-clause-small
farthest_at-sum-requires-clause-small c =
    let j = c.loop-j.j in
    let m = c.args.mat.now in
    let l : j < length m.rows = omega (arith, c.loop-j-test.true, c.rows-j-end.ensures.count) in
    omega (arith, c.requires.small, amount_term j (length m.rows) (λ k. farthest_entry m c.args.radii.now k k) l)

pub overflow_add-sum : goal.overflow_add-sum
overflow_add-sum c =
    let j = c.loop-j.j in
    let m = c.args.mat.now in
    let l : j < length m.rows = omega (arith, c.loop-j-test.true, c.rows-j-end.ensures.count) in
    omega (arith, c.farthest_at-sum.ensures, c.loop-j.invariant, c.requires.small, amount_next j (length m.rows) (λ k. farthest_entry m c.args.radii.now k k) l)
