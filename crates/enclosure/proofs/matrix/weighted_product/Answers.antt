use Rattle.std.proofs.Common.{◌≡◌, ◌+◌, ◌<◌, ℤ, unsigned_abs, arith, refl, subst, ap, ap₂, IfSome, ◌∙◌}
use Rattle.std.specs.Int.{w128}
use Rattle.std.proofs.lemmas.Int.{ints, to_z-of_z}
use Rattle.frac_scaled.specs.Enclosures.{Enclosure, multiple}
use Rattle.enclosure.specs.Values.{pair}
use Rattle.enclosure.proofs.RoomLaws.{reach_mul_is}
use Rattle.enclosure.proofs.GramLaws.{product_reach, once}
use Rattle.enclosure.proofs.matrix.weighted_product.Goals as goal

pub returns-then-weight-eq0-clause-room : goal.returns-then-weight-eq0-clause-room
returns-then-weight-eq0-clause-room c =
    let none : unsigned_abs c.args.weight ≡ 0 = omega (arith, ints, c.if-weight-eq0.true) in
    rw none (λ h. omega arith, λ h. refl)

pub returns-in_err-whole_product-clause-room : goal.returns-in_err-whole_product-clause-room
returns-in_err-whole_product-clause-room c =
    let a = c.args.a in
    let b = c.args.b in
    let positive : 0 < unsigned_abs c.args.weight = omega (arith, ints, c.if-weight-eq0.false) in
    let none = rw (reach_mul_is a.mid a.rad b.mid b.rad a.nonnegative b.nonnegative) at c.in_err-whole_product.ensures.room.1 in
    rw c.from_residual.ensures (λ s. cc, λ h. none (omega (arith, ints, once _ _ _ positive h)))

pub returns-clause-value : goal.returns-clause-value
returns-clause-value c =
    let made = subst (λ (z : ℤ). IfSome c.multiple.result (λ e. pair e ≡ multiple z (pair c.in_ok-whole_product.field-0))) (to_z-of_z w128 _ c.ranges.weight) c.multiple.ensures.value in
    subst (λ (x : Enclosure). IfSome c.multiple.result (λ e. pair e ≡ multiple c.args.weight x)) c.in_ok-whole_product.ensures.value made

pub returns-clause-room : goal.returns-clause-room
returns-clause-room c =
    let a = c.args.a in
    let b = c.args.b in
    let product_of = c.in_ok-whole_product.ensures.value in
    let far = ap₂ (λ (x y : ℤ). unsigned_abs x + unsigned_abs y) (ap (λ (e : Enclosure). e.mid) product_of) (ap (λ (e : Enclosure). e.rad) product_of) ∙
    product_reach (pair a) (pair b) a.nonnegative b.nonnegative in
    rw (to_z-of_z w128 _ c.ranges.weight, far) at c.multiple.ensures.room
