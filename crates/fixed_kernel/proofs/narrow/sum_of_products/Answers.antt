use Rattle.std.proofs.Common.{◌+ℤ◌, rules, FitsSigned, arith, refl}
use Rattle.std.specs.Int.{w128}
use Rattle.std.proofs.lemmas.Int.{to_z-of_z, fits_signed_from_abs}
use Rattle.mat_int.specs.Row.{list_dot}
use Rattle.mat_int.proofs.Dots.{abs-add_le, abs-dot_le}
use Rattle.fixed_kernel.proofs.narrow.sum_of_products.Goals as goal

pub overflow_add-result : goal.overflow_add-result
overflow_add-result c =
    let fits : FitsSigned w128 c.dot.result = search rules in
    let products = list_dot c.args.xs.now c.args.ys.now in
    rw (to_z-of_z w128 _ c.ranges.start, to_z-of_z w128 _ fits, c.dot.ensures)
    (fits_signed_from_abs w128 _ (omega (arith, abs-add_le c.args.start products, abs-dot_le c.args.xs.now c.args.ys.now, c.requires.room)))

pub returns-else-narrow : goal.returns-else-narrow
returns-else-narrow c =
    let fits : FitsSigned w128 c.dot.result = search rules in
    let products = list_dot c.args.xs.now c.args.ys.now in
    let sum : FitsSigned w128 (c.args.start +ℤ products) = fits_signed_from_abs w128 _ (omega (arith, abs-add_le c.args.start products, abs-dot_le c.args.xs.now c.args.ys.now, c.requires.room)) in
    rw (to_z-of_z w128 _ c.ranges.start, to_z-of_z w128 _ fits, c.dot.ensures, to_z-of_z w128 _ sum) refl
