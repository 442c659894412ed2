use Rattle.std.proofs.Common.{rules, FitsSigned, ◌^◌}
use Rattle.std.specs.Int.{w128}
use Rattle.std.proofs.lemmas.Int.{to_z-of_z}
use Rattle.approx_inverse.proofs.StartLaws.{option_bounded}
use Rattle.approx_inverse.proofs.start.scaled_product.Goals as goal

pub returns : goal.returns
returns c =
    let a : FitsSigned w128 c.floor_shift.result = search rules in
    let b : FitsSigned w128 c.floor_shift-2.result = search rules in
    option_bounded c.args.x c.args.s c.floor_shift.result c.floor_shift-2.result (2 ^ c.args.p) (2 ^ c.args.q) c.wide_product.result
    (rw (to_z-of_z w128 _ c.ranges.x) at c.floor_shift.ensures.floor) (rw (to_z-of_z w128 _ c.ranges.s) at c.floor_shift-2.ensures.floor)
    (rw (to_z-of_z w128 _ a, to_z-of_z w128 _ b) at c.wide_product.ensures)
