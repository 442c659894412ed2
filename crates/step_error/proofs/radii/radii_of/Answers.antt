use Rattle.std.proofs.Common.{◌*◌, length, unsigned_abs, rules, arith, ap, sym, ◌∙◌}
use Rattle.std.specs.Int.{w128}
use mir.Val.{SFits}
use Rattle.std.proofs.Math.Nat.{mul-le-mul, one-le-mul}
use Rattle.integer_algebra.specs.Sums.{at}
use Rattle.integer_algebra.proofs.PowerLaws.{pow-two}
use Rattle.qp_model.specs.problem.Parts.{design_of}
use Rattle.qp_model.specs.form.FineSizes.{is_fine}
use Rattle.qp_model.specs.form.Quantities.{greatest}
use Rattle.qp_model.proofs.CornerFacts.{greatest_le}
use Rattle.qp_model.proofs.SizeFacts.{positive}
use Rattle.step_error.proofs.SumFacts.{few, read_size, spread_range, through, within_of}
use Rattle.step_error.proofs.DesignSums.{radii_are, hessian_radii_small, linear_radii_small, constant_radius_small, column_radii_small, plan_radii_small, state_radii_small}
use Rattle.step_error.proofs.radii.radii_of.Goals as goal

pub greatest_row-requires : goal.greatest_row-requires
greatest_row-requires c = hessian_radii_small (is_fine (design_of c.args.parts.now)) c.args.parts.now c.args.c.now c.requires

pub greatest_row-requires-2 : goal.greatest_row-requires-2
greatest_row-requires-2 c = linear_radii_small (is_fine (design_of c.args.parts.now)) c.args.parts.now c.args.c.now c.requires

pub greatest_column-requires : goal.greatest_column-requires
greatest_column-requires c = column_radii_small (is_fine (design_of c.args.parts.now)) c.args.parts.now c.args.c.now c.requires

pub matrix_sum-requires : goal.matrix_sum-requires
matrix_sum-requires c = plan_radii_small (is_fine (design_of c.args.parts.now)) c.args.parts.now c.args.c.now c.requires

pub matrix_sum-requires-2 : goal.matrix_sum-requires-2
matrix_sum-requires-2 c = state_radii_small (is_fine (design_of c.args.parts.now)) c.args.parts.now c.args.c.now c.requires

pub overflow_mul-result : goal.overflow_mul-result
overflow_mul-result c =
    let f : SFits w128 c.args.parts.now.row_den = search rules in
    let row = read_size _ _ f c.unsigned_abs-row_den.ensures.value in
    let small = few c.args.parts.now c.requires.design in
    rw row (omega (arith, mul-le-mul small.row small.row))

pub overflow_mul-result-2 : goal.overflow_mul-result-2
overflow_mul-result-2 c =
    let f : SFits w128 c.args.parts.now.row_den = search rules in
    let g : SFits w128 c.args.parts.now.cost_den = search rules in
    let row = read_size _ _ f c.unsigned_abs-row_den.ensures.value in
    let cost = read_size _ _ g c.unsigned_abs.ensures.value in
    let small = few c.args.parts.now c.requires.design in
    rw (row, cost) (omega (arith, mul-le-mul small.weight (mul-le-mul small.row small.row)))

pub returns-clause-radii : goal.returns-clause-radii
returns-clause-radii c =
    let f : SFits w128 c.args.parts.now.row_den = search rules in
    let g : SFits w128 c.args.parts.now.cost_den = search rules in
    let h : SFits w128 c.args.parts.now.limit_den = search rules in
    let row = read_size _ _ f c.unsigned_abs-row_den.ensures.value in
    let cost = read_size _ _ g c.unsigned_abs.ensures.value in
    let squared = ap (λ n. n * n) row ∙ sym (pow-two (unsigned_abs c.args.parts.now.row_den)) in
    let off = c.greatest_size.ensures ∙ ap (λ xs. greatest (length xs) (λ j. unsigned_abs (at xs j))) c.deref.ensures.value in
    radii_are (is_fine (design_of c.args.parts.now)) c.args.parts.now c.args.c.now c.requires _ c.greatest_row.ensures c.greatest_row-2.ensures off c.greatest_column.ensures c.matrix_sum.ensures
    c.matrix_sum-2.ensures (λ i. cost i * squared i) (read_size _ _ h c.unsigned_abs-2.ensures.value) c.spread.ensures

pub returns-clause-room : goal.returns-clause-room
returns-clause-room c =
    let p = c.args.parts.now in
    let k = c.args.c.now in
    let fine = is_fine (design_of p) in
    let is = c.requires in
    let f : SFits w128 p.row_den = search rules in
    let g : SFits w128 p.cost_den = search rules in
    let h : SFits w128 p.limit_den = search rules in
    let row = read_size _ _ f c.unsigned_abs-row_den.ensures.value in
    let cost = read_size _ _ g c.unsigned_abs.ensures.value in
    let limit = read_size _ _ h c.unsigned_abs-2.ensures.value in
    let off = c.greatest_size.ensures ∙ ap (λ xs. greatest (length xs) (λ j. unsigned_abs (at xs j))) c.deref.ensures.value in
    let small = few p is.design in
    let one = positive p.row_den is.design.row_den.low in
    record {
      hessian = within_of c.greatest_row.ensures (greatest_le _ _ _ (hessian_radii_small fine p k is));
      linear = within_of c.greatest_row-2.ensures (greatest_le _ _ _ (linear_radii_small fine p k is));
      constant = within_of off (greatest_le _ _ _ (constant_radius_small fine p k is));
      column = within_of c.greatest_column.ensures (greatest_le _ _ _ (column_radii_small fine p k is));
      plan = within_of c.matrix_sum.ensures (plan_radii_small fine p k is);
      state = within_of c.matrix_sum-2.ensures (state_radii_small fine p k is);
      cost_some = rw (row, cost) (one-le-mul (positive p.cost_den is.design.cost_den.low) (one-le-mul one one));
      cost_scale = rw (row, cost) (through (mul-le-mul small.weight (mul-le-mul small.row small.row)) (omega arith));
      row_some = rw limit (positive p.limit_den is.design.limit_den.low);
      row_scale = rw limit (through small.limit (omega arith));
      spread_some = rw c.spread.ensures (spread_range k.fine).0;
      spread_few = rw c.spread.ensures (spread_range k.fine).1;
    }
