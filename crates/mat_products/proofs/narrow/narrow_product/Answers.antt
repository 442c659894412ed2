use Rattle.std.proofs.Common.{◌≡◌, ◌*ℤ◌, ◌^◌, refl, arith, FitsSigned}
use Rattle.std.specs.Int.{w128}
use Rattle.std.proofs.lemmas.Int.{ints, to_z-of_z, fits_signed_mul}
use Rattle.mat_products.proofs.narrow.narrow_product.Goals as goal

pub returns : goal.returns
returns c =
    let left : c.from.result ≡ c.args.x = omega (arith, ints, c.from.ensures, c.requires.left) in
    let right : c.from-2.result ≡ c.args.y = omega (arith, ints, c.from-2.ensures, c.requires.right) in
    let product : FitsSigned w128 (c.args.x *ℤ c.args.y) = fits_signed_mul w128 c.args.x c.args.y (2 ^ 63) (2 ^ 63) (omega (arith, c.requires.left)) (omega (arith, c.requires.right)) (omega arith) in
    rw (left, right, to_z-of_z w128 _ c.ranges.x, to_z-of_z w128 _ c.ranges.y, to_z-of_z w128 _ product) refl
