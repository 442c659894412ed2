use Rattle.mat_products.proofs.Carries.{started_steps}
use Rattle.std.proofs.lemmas.Grind.{common_steps}
use Rattle.std.proofs.Common.{◌≡◌, ◌*ℤ◌, get_or, pos, rules, FitsSigned, arith}
use Rattle.std.specs.Int.{w128}
use Rattle.std.proofs.lemmas.Int.{ints, to_z-of_z}
use Rattle.mat_products.specs.InHalves.{whole}
use Rattle.mat_int.proofs.Dots.{dot-take_more}
use Rattle.mat_products.proofs.narrow.narrow_dot.Goals as goal

pub loop-i-preserved : goal.loop-i-preserved
loop-i-preserved c =
    let i = c.loop-i.i in
    let x : FitsSigned w128 (get_or c.args.xs.now i (pos 0)) = search rules in
    let y : FitsSigned w128 (get_or c.args.ys.now i (pos 0)) = search rules in
    let made : FitsSigned w128 c.narrow_product.result = search rules in
    let more = dot-take_more c.args.xs.now c.args.ys.now i (omega arith) (omega (arith, c.requires.lengths)) in
    let product : c.narrow_product.result ≡ get_or c.args.xs.now i (pos 0) *ℤ get_or c.args.ys.now i (pos 0) = rw (to_z-of_z w128 _ x, to_z-of_z w128 _ y) at c.narrow_product.ensures in
    let halves : whole c.of.result ≡ c.narrow_product.result = rw (to_z-of_z w128 _ made) at c.of.ensures in
    omega (arith, ints, c.plus-sum.ensures, halves, product, c.loop-i.invariant, more)

pub returns : goal.returns
returns c = grind (arith, common_steps)

pub plus-sum-requires : goal.plus-sum-requires
plus-sum-requires c = grind (arith, started_steps)
