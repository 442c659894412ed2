use Rattle.std.proofs.Common.{rules, ◌+ℤ◌, ◌-ℤ◌, pos, FitsSigned}
use Rattle.std.specs.Int.{w128, IsIsqrt}
use Rattle.std.proofs.lemmas.Int.{to_z-of_z}
use Rattle.dual_bounds.proofs.QuarterLaws.{by_product, by_root, product_fits}
use Rattle.dual_bounds.proofs.numbers.least_quarter.Goals as goal

pub overflow_mul-root : goal.overflow_mul-root
overflow_mul-root c =
    let root : FitsSigned w128 c.isqrt-root.result = search rules in
    let one : FitsSigned w128 (c.isqrt-root.result -ℤ pos 1) = search rules in
    let two : FitsSigned w128 (c.isqrt-root.result +ℤ pos 2) = search rules in
    let is : IsIsqrt c.args.n c.isqrt-root.result = rw (to_z-of_z w128 _ c.ranges.n) at c.isqrt-root.ensures in
    rw (to_z-of_z w128 _ root, to_z-of_z w128 _ one, to_z-of_z w128 _ two) (product_fits c.args.n c.isqrt-root.result c.requires.some c.requires.small is)

pub returns-then-root-n : goal.returns-then-root-n
returns-then-root-n c =
    let root : FitsSigned w128 c.isqrt-root.result = search rules in
    let one : FitsSigned w128 (c.isqrt-root.result -ℤ pos 1) = search rules in
    let two : FitsSigned w128 (c.isqrt-root.result +ℤ pos 2) = search rules in
    let is : IsIsqrt c.args.n c.isqrt-root.result = rw (to_z-of_z w128 _ c.ranges.n) at c.isqrt-root.ensures in
    let fits = product_fits c.args.n c.isqrt-root.result c.requires.some c.requires.small is in
    rw (to_z-of_z w128 _ root, to_z-of_z w128 _ one) (by_product c.args.n c.isqrt-root.result c.requires.some is
    (rw (to_z-of_z w128 _ root, to_z-of_z w128 _ one, to_z-of_z w128 _ two, to_z-of_z w128 _ fits, to_z-of_z w128 _ c.ranges.n) at c.if-root-n.true))

pub returns-else-root-n : goal.returns-else-root-n
returns-else-root-n c =
    let root : FitsSigned w128 c.isqrt-root.result = search rules in
    let one : FitsSigned w128 (c.isqrt-root.result -ℤ pos 1) = search rules in
    let two : FitsSigned w128 (c.isqrt-root.result +ℤ pos 2) = search rules in
    let is : IsIsqrt c.args.n c.isqrt-root.result = rw (to_z-of_z w128 _ c.ranges.n) at c.isqrt-root.ensures in
    let fits = product_fits c.args.n c.isqrt-root.result c.requires.some c.requires.small is in
    rw (to_z-of_z w128 _ root) (by_root c.args.n c.isqrt-root.result c.requires.some is
    (rw (to_z-of_z w128 _ root, to_z-of_z w128 _ one, to_z-of_z w128 _ two, to_z-of_z w128 _ fits, to_z-of_z w128 _ c.ranges.n) at c.if-root-n.false))
