use Rattle.std.proofs.Common.{◌^◌, ◌*◌, ◌*ℤ◌, ℤ, pos, unsigned_abs, rules, arith, refl, ◌∙◌, FitsSigned}
use Rattle.std.proofs.Math.IntN.{*ℤ_comm}
use Rattle.std.specs.Int.{w128}
use Rattle.std.proofs.lemmas.Int.{ints, to_z-of_z}
use Rattle.frac_scaled.specs.Enclosures.{inexact, enclosed}
use Rattle.enclosure.proofs.RoomLaws.{same_pair, ceil_none, refused, limit_is}
use Rattle.std.proofs.Common.{subst}
use Rattle.frac_scaled.specs.Enclosures.{Encloses}
use Rattle.frac_scaled.proofs.EnclosureLaws.{enclosed_law}
use Rattle.enclosure.proofs.RoomLaws.{divisor_is}
use Rattle.enclosure.proofs.single.enclose.Goals as goal

pub returns-in_err-limited_product-clause-room : goal.returns-in_err-limited_product-clause-room
returns-in_err-limited_product-clause-room c =
    let n = rw (to_z-of_z w128 _ c.ranges.num) at c.unsigned_abs.ensures.value in
    refused c.from_residual.result (2 ^ 40 * unsigned_abs c.args.num) _ c.from_residual.ensures refl (rw n at c.in_err-limited_product.ensures)

pub returns-clause-room : goal.returns-clause-room
returns-clause-room c =
    let n = rw (to_z-of_z w128 _ c.ranges.num) at c.unsigned_abs.ensures.value in
    let near = rw n at c.in_ok-limited_product.ensures.0 in
    (λ h. (limit_is (2 ^ 40 * unsigned_abs c.args.num) _ refl).0 near, λ h. refl)

pub returns-clause-value : goal.returns-clause-value
returns-clause-value c =
    let f : FitsSigned w128 c.scaled-mid.result = search rules in
    let is = rw (to_z-of_z w128 _ c.ranges.num) at c.scaled-mid.ensures ∙ *ℤ_comm c.args.num (pos (2 ^ 40)) in
    let e = rw (to_z-of_z w128 _ f, is, to_z-of_z w128 _ c.ranges.den) at c.divided.ensures in
    e ∙ same_pair refl (ceil_none (unsigned_abs c.args.den) (inexact (pos (2 ^ 40) *ℤ c.args.num) (unsigned_abs c.args.den)) (omega (arith, ints, c.requires)))

pub returns-clause-encloses : goal.returns-clause-encloses
returns-clause-encloses c =
    rw (returns-clause-value c) (subst (λ (d : ℤ). Encloses (enclosed c.args.num (unsigned_abs c.args.den)) c.args.num d) (divisor_is c.args.den c.requires)
    (enclosed_law c.args.num (unsigned_abs c.args.den) (omega (arith, ints, c.requires))))
