use Rattle.std.proofs.Common.{◌<◌, ℤ, pos, ◌*ℤ◌, unsigned_abs, arith, ap, ◌∙◌}
use Rattle.std.specs.Int.{w128}
use Rattle.std.specs.Int.Signed.{≤ℤ_refl}
use Rattle.std.proofs.lemmas.Int.{ints, to_z-of_z, unsigned_abs-mul}
use Rattle.integer_algebra.specs.Division.{round_of}
use Rattle.frac_scaled.specs.Enclosures.{inexact}
use Rattle.enclosure.proofs.RoomLaws.{ceil_none}
use Rattle.corner_margin.proofs.corner.over_unit.Goals as goal

pub brought-mid-requires-clause-fits : goal.brought-mid-requires-clause-fits
brought-mid-requires-clause-fits c = rw (to_z-of_z w128 _ c.ranges.num) c.requires.fits

pub brought-mid-requires-clause-unit : goal.brought-mid-requires-clause-unit
brought-mid-requires-clause-unit c = c.requires.unit

pub divided-requires-clause-divisor : goal.divided-requires-clause-divisor
divided-requires-clause-divisor c = rw (to_z-of_z w128 _ c.ranges.den) c.requires.divisor

pub invariant_of-divided : goal.invariant_of-divided
invariant_of-divided c = record { nonnegative = ≤ℤ_refl (pos 0) }

pub divided-requires-clause-room : goal.divided-requires-clause-room
divided-requires-clause-room c =
    let mid = to_z-of_z w128 _ (record { sfits = c.brought-mid.type_inv }) ∙ c.brought-mid.ensures ∙ ap (λ (z : ℤ). pos c.args.unit *ℤ z) (to_z-of_z w128 _ c.ranges.num) in
    rw (mid, unsigned_abs-mul (pos c.args.unit) c.args.num) (omega (arith, ints, c.requires.fits))

pub returns : goal.returns
returns c =
    let mid = to_z-of_z w128 _ (record { sfits = c.brought-mid.type_inv }) ∙ c.brought-mid.ensures ∙ ap (λ (z : ℤ). pos c.args.unit *ℤ z) (to_z-of_z w128 _ c.ranges.num) in
    let some : 0 < unsigned_abs c.args.den = omega (arith, ints, c.requires.divisor) in
    let value = rw (mid, to_z-of_z w128 _ c.ranges.den) at c.divided.ensures in
    value ∙ (λ i. record {
      mid = round_of (pos c.args.unit *ℤ c.args.num) (unsigned_abs c.args.den);
      rad = ceil_none (unsigned_abs c.args.den) (inexact (pos c.args.unit *ℤ c.args.num) (unsigned_abs c.args.den)) some i;
    })
