use Rattle.std.proofs.Common.{◌≡◌, ℕ, ◌*◌, ◌^◌, ◌≤◌, pos, ◌*ℤ◌, unsigned_abs, arith, ap, sym, ◌∙◌}
use Rattle.std.specs.Int.{w128}
use mir.Val.{SFits}
use Rattle.integer_algebra.proofs.PowerLaws.{pow-two}
use Rattle.qp_model.specs.problem.Parts.{design_of}
use Rattle.condensed_form.specs.Form.{response_scale}
use Rattle.condensed_form.proofs.Rooms.{read}
use Rattle.condensed_form.proofs.CostFacts.{response_room}
use Rattle.condensed_form.proofs.DenominatorFacts.{natural, denominator_fits, naturals, naturals_fit, naturals_read, scale_size, square_size}
use Rattle.condensed_form.proofs.denominators.square_scale.Goals as goal

last : (a b : ℕ) → a ≤ b → b ≤ 2 ^ 126 → a ≤ 2 ^ 126
last a b h k = omega arith

pub overflow_mul-scale : goal.overflow_mul-scale
overflow_mul-scale c =
    let p = c.args.parts.now in
    let fr : SFits w128 p.row_den = denominator_fits p.row_den c.requires.design.row_den in
    let er : p.row_den ≡ pos (unsigned_abs p.row_den) = natural p.row_den c.requires.design.row_den.low in
    let m : ℕ = unsigned_abs p.plant_den ^ p.stages in
    let small : unsigned_abs p.row_den * m ≤ 2 ^ 126 = last _ _ (scale_size p) (response_room p c.requires.design c.requires.fits) in
    naturals_fit p.row_den c.args.power (unsigned_abs p.row_den) m fr c.ranges.power er c.requires.power small

pub overflow_mul-result : goal.overflow_mul-result
overflow_mul-result c =
    let p = c.args.parts.now in
    let fr : SFits w128 p.row_den = denominator_fits p.row_den c.requires.design.row_den in
    let er : p.row_den ≡ pos (unsigned_abs p.row_den) = natural p.row_den c.requires.design.row_den.low in
    let m : ℕ = unsigned_abs p.plant_den ^ p.stages in
    let small : unsigned_abs p.row_den * m ≤ 2 ^ 126 = last _ _ (scale_size p) (response_room p c.requires.design c.requires.fits) in
    let fits : SFits w128 (read p.row_den *ℤ read c.args.power) = naturals_fit p.row_den c.args.power (unsigned_abs p.row_den) m fr c.ranges.power er c.requires.power small in
    let value : read p.row_den *ℤ read c.args.power ≡ pos (unsigned_abs p.row_den * m) = naturals p.row_den c.args.power (unsigned_abs p.row_den) m fr c.ranges.power er c.requires.power small in
    naturals_fit _ _ (unsigned_abs p.row_den * m) (unsigned_abs p.row_den * m) fits fits value value (square_size p c.requires.design c.requires.fits)

pub returns : goal.returns
returns c =
    let p = c.args.parts.now in
    let fr : SFits w128 p.row_den = denominator_fits p.row_den c.requires.design.row_den in
    let er : p.row_den ≡ pos (unsigned_abs p.row_den) = natural p.row_den c.requires.design.row_den.low in
    let m : ℕ = unsigned_abs p.plant_den ^ p.stages in
    let small : unsigned_abs p.row_den * m ≤ 2 ^ 126 = last _ _ (scale_size p) (response_room p c.requires.design c.requires.fits) in
    let fits : SFits w128 (read p.row_den *ℤ read c.args.power) = naturals_fit p.row_den c.args.power (unsigned_abs p.row_den) m fr c.ranges.power er c.requires.power small in
    let value : read p.row_den *ℤ read c.args.power ≡ pos (unsigned_abs p.row_den * m) = naturals p.row_den c.args.power (unsigned_abs p.row_den) m fr c.ranges.power er c.requires.power small in
    naturals_read _ _ (unsigned_abs p.row_den * m) (unsigned_abs p.row_den * m) fits fits value value (square_size p c.requires.design c.requires.fits) ∙
    ap pos (sym (pow-two (response_scale (design_of p))))
