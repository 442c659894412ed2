use Rattle.std.proofs.Common.{◌≡◌, ℕ, ◌+◌, ◌*◌, ◌^◌, ◌≤◌, arith, ◌∙◌}
use Rattle.integer_algebra.specs.Division.{ceil_div}
use Rattle.qp_model.specs.bounds.Errors.{radius_error}
use Rattle.step_error.specs.ErrorSums.{sums_of}
use Rattle.step_error.proofs.SumFacts.{kept, radius_parts, within_of}
use Rattle.step_error.proofs.sums.ErrorSums.radius_size.Goals as goal

pub returns-in_err-moved : goal.returns-in_err-moved
returns-in_err-moved c =
    let parts = radius_parts (sums_of c.args.self.now) c.args.plan c.requires.weight_some c.requires.entries_some c.requires.top_some in
    rw c.from_residual.ensures (λ h. c.in_err-moved.ensures (less _ c.args.self.now.radii.o_rad (parts h).moved))
  where
    less : (a b : ℕ) → a + b ≤ 2 ^ 126 → a ≤ 2 ^ 126
    less a b h = omega (arith, h)

pub overflow_add-moved : goal.overflow_add-moved
overflow_add-moved c = omega (arith, c.in_ok-moved.ensures.0, c.in_ok-moved.ensures.1, c.requires.radii.constant)

pub returns-in_err-columns : goal.returns-in_err-columns
returns-in_err-columns c =
    let parts = radius_parts (sums_of c.args.self.now) c.args.plan c.requires.weight_some c.requires.entries_some c.requires.top_some in
    rw c.from_residual-in_err-columns.ensures (λ h. c.in_err-columns.ensures (parts h).columns)

pub radius_squares-requires-clause-moved : goal.radius_squares-requires-clause-moved
radius_squares-requires-clause-moved c = omega (arith, c.in_ok-moved.ensures.0, c.in_ok-moved.ensures.1, c.requires.radii.constant)

pub radius_squares-requires-clause-columns : goal.radius_squares-requires-clause-columns
radius_squares-requires-clause-columns c = omega (arith, c.in_ok-columns.ensures.0, c.in_ok-columns.ensures.1)

pub returns-in_err-squares : goal.returns-in_err-squares
returns-in_err-squares c =
    let w = c.args.self.now in
    let parts = radius_parts (sums_of w) c.args.plan c.requires.weight_some c.requires.entries_some c.requires.top_some in
    rw c.from_residual-in_err-squares.ensures (λ h. c.in_err-squares.ensures (within_of
    (λ i. w.weight_den * w.nu * (ceil_div (c.in_ok-moved.ensures.1 i + w.radii.o_rad) w.radii.cost_scale + ceil_div (c.in_ok-columns.ensures.1 i) w.radii.row_scale) ^ 2)
    (parts h).squares))

pub returns-in_err-rows : goal.returns-in_err-rows
returns-in_err-rows c =
    let parts = radius_parts (sums_of c.args.self.now) c.args.plan c.requires.weight_some c.requires.entries_some c.requires.top_some in
    rw c.from_residual-in_err-rows.ensures (λ h. c.in_err-rows.ensures (parts h).rows_moved)

pub overflow_add-squares : goal.overflow_add-squares
overflow_add-squares c = omega (arith, c.in_ok-moved.ensures.0, c.in_ok-moved.ensures.1, c.requires.radii.constant, c.in_ok-squares.ensures.0, c.in_ok-squares.ensures.1)

pub returns-in_err-products : goal.returns-in_err-products
returns-in_err-products c =
    let w = c.args.self.now in
    rw c.from_residual-in_err-products.ensures (λ h. c.in_err-products.ensures (within_of
    (λ i. 1 * c.in_ok-columns.ensures.1 i + w.y_top * c.in_ok-rows.ensures.1 i) (last _ _ _ _ _ _ h)))
  where
    last : (x a b d e f : ℕ) → x + a + b + d + e + f ≤ 2 ^ 126 → 1 * e + f ≤ 2 ^ 126
    last x a b d e f h = omega (arith, h)

pub returns : goal.returns
returns c =
    let w = c.args.self.now in
    let squares : c.in_ok-squares.squares ≡ w.weight_den * w.nu * radius_error (sums_of w) c.args.plan ^ 2 = c.in_ok-squares.ensures.1 ∙
    (λ i. w.weight_den * w.nu * (ceil_div (c.in_ok-moved.ensures.1 i + w.radii.o_rad) w.radii.cost_scale + ceil_div (c.in_ok-columns.ensures.1 i) w.radii.row_scale) ^ 2) in
    let rest = c.in_ok-products.ensures.1 ∙ (λ i. 1 * c.in_ok-columns.ensures.1 i + w.y_top * c.in_ok-rows.ensures.1 i) in
    kept c.limited_sum.result ((λ i. squares i + (c.in_ok-moved.ensures.1 i + w.radii.o_rad) + rest i) ∙ turned _ _ _ _ _ _) c.limited_sum.ensures
  where
    turned : (x a b d e f : ℕ) → x + (a + b + d) + (1 * e + f) ≡ x + a + b + d + e + f
    turned x a b d e f = omega arith
