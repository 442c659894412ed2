use Rattle.std.proofs.Common.{◌≡◌, ℕ, ◌*◌, ◌^◌, ◌<◌, ◌≤◌, min, ℤ, pos, ◌*ℤ◌, unsigned_abs, arith, ap, ◌∙◌, to_z}
use Rattle.std.specs.Int.{w128}
use Rattle.std.proofs.lemmas.Int.{ints, unsigned_abs-mul, to_z-of_z}
use Rattle.qp_model.specs.problem.Parts.{design_of}
use Rattle.condensed_form.specs.Form.{response_scale}
use Rattle.condensed_form.proofs.Rooms.{product_fits, doubled_product_fits, doubled_product}
use Rattle.condensed_form.proofs.DenominatorFacts.{denominator_fits, least_room, floor_some, floor_none}
use Rattle.condensed_form.proofs.denominators.bend_floor.Goals as goal

twice : (z : ℤ) (s : ℕ) → unsigned_abs (pos 2 *ℤ (z *ℤ pos s)) ≡ 2 * (unsigned_abs z * s)
twice z s = unsigned_abs-mul (pos 2) (z *ℤ pos s) ∙ ap (λ n. 2 * n) (unsigned_abs-mul z (pos s))

bits : (n : ℕ) → n ≤ 2 ^ 126 → to_z w128 n ≡ pos n
bits n h = omega (arith, ints)

above : (a t : ℕ) → (a ≤ t → ⊥) → t < a
above a t h = omega (arith, h)

pub overflow_mul-input_floor : goal.overflow_mul-input_floor
overflow_mul-input_floor c =
    let p = c.args.parts.now in
    let room : 2 * (unsigned_abs c.args.input_floor * unsigned_abs c.args.square) ≤ 2 ^ 126 = rw c.requires.square (least_room p c.requires.design c.args.input_floor c.requires.least c.requires.fits) in
    product_fits c.args.input_floor c.args.square c.ranges.input_floor c.ranges.square room

pub overflow_mul-input_floor-2 : goal.overflow_mul-input_floor-2
overflow_mul-input_floor-2 c =
    let p = c.args.parts.now in
    let room : 2 * (unsigned_abs c.args.input_floor * unsigned_abs c.args.square) ≤ 2 ^ 126 = rw c.requires.square (least_room p c.requires.design c.args.input_floor c.requires.least c.requires.fits) in
    doubled_product_fits c.args.input_floor c.args.square c.ranges.input_floor c.ranges.square room

pub returns-in-Some : goal.returns-in-Some
returns-in-Some c =
    let p = c.args.parts.now in
    let room : 2 * (unsigned_abs c.args.input_floor * unsigned_abs c.args.square) ≤ 2 ^ 126 = rw c.requires.square (least_room p c.requires.design c.args.input_floor c.requires.least c.requires.fits) in
    let s : ℕ = response_scale (design_of p) ^ 2 in
    let bend : c.unsigned_abs-bend.result ≡ 2 * (unsigned_abs c.args.input_floor * s) =
    c.unsigned_abs-bend.ensures.value ∙ rw (doubled_product c.args.input_floor c.args.square c.ranges.input_floor c.ranges.square room, c.requires.square) (twice c.args.input_floor s) in
    let den : c.unsigned_abs.result ≡ unsigned_abs p.limit_den = rw (to_z-of_z w128 _ (denominator_fits p.limit_den c.requires.design.limit_den)) at c.unsigned_abs.ensures.value in
    let floor : c.in-Some.floor ≡ min (2 * unsigned_abs p.limit_den * s * unsigned_abs c.args.input_floor) (2 ^ 126) =
    floor_some (unsigned_abs p.limit_den) s (unsigned_abs c.args.input_floor) c.unsigned_abs.result c.unsigned_abs-bend.result c.in-Some.floor (2 ^ 126) den bend c.in-Some.ensures.0 c.in-Some.ensures.1 in
    bits c.in-Some.floor (omega (arith, floor)) ∙ ap pos floor

pub returns-in-None : goal.returns-in-None
returns-in-None c =
    let p = c.args.parts.now in
    let room : 2 * (unsigned_abs c.args.input_floor * unsigned_abs c.args.square) ≤ 2 ^ 126 = rw c.requires.square (least_room p c.requires.design c.args.input_floor c.requires.least c.requires.fits) in
    let s : ℕ = response_scale (design_of p) ^ 2 in
    let bend : c.unsigned_abs-bend.result ≡ 2 * (unsigned_abs c.args.input_floor * s) =
    c.unsigned_abs-bend.ensures.value ∙ rw (doubled_product c.args.input_floor c.args.square c.ranges.input_floor c.ranges.square room, c.requires.square) (twice c.args.input_floor s) in
    let den : c.unsigned_abs.result ≡ unsigned_abs p.limit_den = rw (to_z-of_z w128 _ (denominator_fits p.limit_den c.requires.design.limit_den)) at c.unsigned_abs.ensures.value in
    ap pos (floor_none (unsigned_abs p.limit_den) s (unsigned_abs c.args.input_floor) c.unsigned_abs.result c.unsigned_abs-bend.result (2 ^ 126) den bend (above _ _ c.in-None.ensures))
