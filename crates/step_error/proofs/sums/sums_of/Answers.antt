use Rattle.std.proofs.Common.{rules, ◌≡◌, ℕ, ◌+◌, ◌*◌, ◌^◌, ◌<◌, ◌≤◌, Fits, Option, None, ℤ, pos, ◌≤ℤ◌, unsigned_abs, arith, ◌∙◌, sym, refl}
use Rattle.std.specs.Int.{w128}
use Rattle.std.specs.Option.{MatchOption}
use mir.Val.{SFits}
use Rattle.std.proofs.lemmas.Int.{ints}
use Rattle.std.proofs.lemmas.Nat.{mul-le}
use Rattle.integer_algebra.specs.Division.{ceil_div}
use Rattle.qp_model.specs.problem.Parts.{design_of}
use Rattle.qp_model.specs.form.FineSizes.{is_fine}
use Rattle.qp_model.specs.form.Quantities.{input_floor}
use Rattle.qp_model.specs.bounds.Errors.{gradient_error, gradient_squares, plan_pull, error_size, error_sums_of}
use Rattle.qp_model.proofs.SizeFacts.{positive}
use Rattle.condensed_form.specs.Form.{held}
use Rattle.step_error.specs.declared.sums.ErrorSums.{ErrorSums}
use Rattle.step_error.specs.ErrorSums.{sums_of, size_by}
use Rattle.step_error.proofs.Ceilings.{positive_by, quotient_is}
use Rattle.step_error.proofs.SumFacts.{read_size, few, floor_range, doubled, spread_range, within_of}
use Rattle.step_error.proofs.DesignSums.{hessian_pair, square, hessian_row_small, scale_one, weight_is, floor_is, count_is, reach_is, squares_is, within, reach_small, room_of, size_of}
use Rattle.step_error.proofs.sums.sums_of.Goals as goal
use Rattle.step_error.proofs.sums.sums_of.Goals.{After-radii_of}

-- no sums, and the reason
nothing : {T : Type 0} (r : Option T) (p : Type 0) (q : T → Type 0) → r ≡ None → (p → ⊥) → MatchOption r (¬ p) q
nothing r p q e h = rw e h

one : 1 ≤ 2 ^ 20
one = omega arith

fits : {n : ℕ} → n ≤ 2 ^ 80 → Fits w128 n
fits {n} h = omega (arith, h)

single : {n : ℕ} → 1 * n ≤ 2 ^ 80 → n < 2 ^ 128
single {n} h = omega (arith, h)

pub sizes_of-sizes-requires : goal.sizes_of-sizes-requires
sizes_of-sizes-requires c = c.requires.form

pub radii_of-requires : goal.radii_of-requires
radii_of-requires c = c.requires.form

pub pull_of-requires : goal.pull_of-requires
pull_of-requires c = c.requires.narrow

pub gradient_squares-requires-clause-small : goal.gradient_squares-requires-clause-small
gradient_squares-requires-clause-small c = hessian_row_small (is_fine (design_of c.args.parts.now)) c.args.parts.now c.args.c.now c.requires.form

pub gradient_squares-requires-clause-pair : goal.gradient_squares-requires-clause-pair
gradient_squares-requires-clause-pair c = hessian_pair (is_fine (design_of c.args.parts.now)) c.args.parts.now c.args.c.now c.requires.form

pub gradient_squares-requires-clause-square : goal.gradient_squares-requires-clause-square
gradient_squares-requires-clause-square c = square (is_fine (design_of c.args.parts.now)) c.args.parts.now c.args.c.now c.requires.form

pub gradient_squares-requires-clause-some : goal.gradient_squares-requires-clause-some
gradient_squares-requires-clause-some c =
    let f : SFits w128 c.args.c.now.hess_den = search rules in
    positive_by (read_size _ _ f c.unsigned_abs-hess_den.ensures.value) (scale_one (is_fine (design_of c.args.parts.now)) c.args.parts.now c.args.c.now c.requires.form)

pub gradient_squares-requires-clause-scale : goal.gradient_squares-requires-clause-scale
gradient_squares-requires-clause-scale c =
    let f : SFits w128 c.args.c.now.hess_den = search rules in
    below c.args.c.now.hess_den _ f c.requires.form.denominators.hess_den (read_size _ _ f c.unsigned_abs-hess_den.ensures.value)
  where
    below : (z : ℤ) (n : ℕ) → SFits w128 z → pos 1 ≤ℤ z → n ≡ unsigned_abs z → n < 2 ^ 127
    below z n f h e = omega (arith, ints, f, h, e)

pub returns-in_err-errors : goal.returns-in_err-errors
returns-in_err-errors c =
    let p = c.args.parts.now in
    let d = design_of p in
    let form = c.requires.form in
    let f : SFits w128 c.args.c.now.hess_den = search rules in
    let scale = read_size _ _ f c.unsigned_abs-hess_den.ensures.value in
    let combined = reach_is (is_fine d) p c.args.c.now form c.args.r _ _ c.sizes_of-sizes.ensures.state c.rows.ensures.count in
    let squares = squares_is (is_fine d) p c.args.c.now form c.args.r _ _ scale combined in
    let fit = within d (held c.args.c.now) c.args.r (positive p.cost_den form.design.cost_den.low) (spread_range c.args.c.now.fine).0 in
    nothing _ _ _ c.from_residual.ensures (λ h. c.in_err-errors.ensures (within_of squares (fit h).squares))

pub returns-in_err-squares : goal.returns-in_err-squares
returns-in_err-squares c =
    let p = c.args.parts.now in
    let d = design_of p in
    let form = c.requires.form in
    let f : SFits w128 c.args.c.now.hess_den = search rules in
    let g : SFits w128 c.args.c.now.weight_den = search rules in
    let scale = read_size _ _ f c.unsigned_abs-hess_den.ensures.value in
    let weight = read_size _ _ g c.unsigned_abs-weight_den.ensures.value ∙ weight_is (is_fine d) p c.args.c.now form in
    let combined = reach_is (is_fine d) p c.args.c.now form c.args.r _ _ c.sizes_of-sizes.ensures.state c.rows.ensures.count in
    let squares = squares_is (is_fine d) p c.args.c.now form c.args.r _ _ scale combined in
    let fit = within d (held c.args.c.now) c.args.r (positive p.cost_den form.design.cost_den.low) (spread_range c.args.c.now.fine).0 in
    nothing _ _ _ c.from_residual-in_err-squares.ensures (λ h. c.in_err-squares.ensures
    (within_of (λ i. weight i * (c.in_ok-errors.ensures.1 ∙ squares) i) (fit h).weighed))

pub returns-in_err-pull_of : goal.returns-in_err-pull_of
returns-in_err-pull_of c =
    let p = c.args.parts.now in
    let d = design_of p in
    let sizes = c.sizes_of-sizes.ensures in
    let fit = within d (held c.args.c.now) c.args.r (positive p.cost_den c.requires.form.design.cost_den.low) (spread_range c.args.c.now.fine).0 in
    nothing _ _ _ c.from_residual-in_err-pull_of.ensures (λ h. c.in_err-pull_of.ensures
    (within_of (λ i. sizes.state i * sizes.linear i + sizes.constant i + 2 * c.args.r * sizes.rows i) (fit h).pulling))

pub returns-in_err-plan_pull : goal.returns-in_err-plan_pull
returns-in_err-plan_pull c =
    let p = c.args.parts.now in
    let d = design_of p in
    let form = c.requires.form in
    let g : SFits w128 c.args.c.now.weight_den = search rules in
    let weight = read_size _ _ g c.unsigned_abs-weight_den.ensures.value ∙ weight_is (is_fine d) p c.args.c.now form in
    let sizes = c.sizes_of-sizes.ensures in
    let pulling = c.in_ok-pull_of.ensures.1 ∙ (λ i. sizes.state i * sizes.linear i + sizes.constant i + 2 * c.args.r * sizes.rows i) in
    let fit = within d (held c.args.c.now) c.args.r (positive p.cost_den form.design.cost_den.low) (spread_range c.args.c.now.fine).0 in
    nothing _ _ _ c.from_residual-in_err-plan_pull.ensures (λ h. c.in_err-plan_pull.ensures (within_of (λ i. weight i * pulling i) (fit h).pulled))

pub overflow_mul-weight_den : goal.overflow_mul-weight_den
overflow_mul-weight_den c =
    let p = c.args.parts.now in
    let d = design_of p in
    let form = c.requires.form in
    let g : SFits w128 c.args.c.now.weight_den = search rules in
    let weight = read_size _ _ g c.unsigned_abs-weight_den.ensures.value ∙ weight_is (is_fine d) p c.args.c.now form in
    let count = count_is (is_fine d) p c.args.c.now form _ c.rows.ensures.count in
    let bounds = few p form.design in
    let small = reach_small c.unsigned_abs-weight_den.result p.states c.sizes_of-sizes.result.state c.args.r c.rows.result
    (rw weight bounds.weight) bounds.states c.sizes_of-sizes.ensures.near c.requires.narrow (rw count bounds.rows) in
    fits small

pub returns-in_err-limited_product : goal.returns-in_err-limited_product
returns-in_err-limited_product c =
    let p = c.args.parts.now in
    let d = design_of p in
    let form = c.requires.form in
    let g : SFits w128 c.args.c.now.weight_den = search rules in
    let weight = read_size _ _ g c.unsigned_abs-weight_den.ensures.value ∙ weight_is (is_fine d) p c.args.c.now form in
    let combined = reach_is (is_fine d) p c.args.c.now form c.args.r _ _ c.sizes_of-sizes.ensures.state c.rows.ensures.count in
    let fit = within d (held c.args.c.now) c.args.r (positive p.cost_den form.design.cost_den.low) (spread_range c.args.c.now.fine).0 in
    nothing _ _ _ c.from_residual-in_err-limited_product.ensures (λ h. c.in_err-limited_product.ensures
    (within_of (λ i. weight i * combined i * c.sizes_of-sizes.ensures.trace i) (fit h).tail))

-- ---- the sums
rho : (c : After-radii_of) → c.unsigned_abs-rho.result ≡ input_floor (design_of c.args.parts.now)
rho c =
    let k : SFits w128 c.args.c.now.input_floor = search rules in
    read_size _ _ k c.unsigned_abs-rho.ensures.value ∙ floor_is (is_fine (design_of c.args.parts.now)) c.args.parts.now c.args.c.now c.requires.form

some_floor : (c : After-radii_of) → 0 < 2 * c.unsigned_abs-rho.result
some_floor c = doubled _ (rw (rho c) (floor_range c.args.parts.now c.requires.form.design).0)

first : (c : After-radii_of) → c.div_ceil.result ≡ ceil_div c.in_ok-squares.squares (2 * c.unsigned_abs-rho.result)
first c = quotient_is _ _ _ c.in_ok-squares.squares (2 * c.unsigned_abs-rho.result) (some_floor c) c.div_ceil.ensures refl refl

lead : (c : After-radii_of) → c.div_ceil-2.result ≡ ceil_div c.in_ok-plan_pull.plan_pull (2 * c.unsigned_abs-rho.result)
lead c = quotient_is _ _ _ c.in_ok-plan_pull.plan_pull (2 * c.unsigned_abs-rho.result) (some_floor c) c.div_ceil-2.ensures refl refl

weight : (c : After-radii_of) → c.unsigned_abs-weight_den.result ≡ (design_of c.args.parts.now).cost_denominator
weight c =
    let g : SFits w128 c.args.c.now.weight_den = search rules in
    read_size _ _ g c.unsigned_abs-weight_den.ensures.value ∙ weight_is (is_fine (design_of c.args.parts.now)) c.args.parts.now c.args.c.now c.requires.form

squared : (c : After-radii_of) → let d = design_of c.args.parts.now in
    c.in_ok-squares.squares ≡ d.cost_denominator * gradient_squares d (gradient_error d (held c.args.c.now) c.args.r)
squared c =
    let d = design_of c.args.parts.now in
    let form = c.requires.form in
    let f : SFits w128 c.args.c.now.hess_den = search rules in
    let combined = reach_is (is_fine d) c.args.parts.now c.args.c.now form c.args.r _ _ c.sizes_of-sizes.ensures.state c.rows.ensures.count in
    let squares = squares_is (is_fine d) c.args.parts.now c.args.c.now form c.args.r _ _ (read_size _ _ f c.unsigned_abs-hess_den.ensures.value) combined in
    c.in_ok-squares.ensures.1 ∙ (λ i. weight c i * (c.in_ok-errors.ensures.1 ∙ squares) i)

pulled : (c : After-radii_of) → c.in_ok-plan_pull.plan_pull ≡ plan_pull (design_of c.args.parts.now) (held c.args.c.now) c.args.r
pulled c =
    let sizes = c.sizes_of-sizes.ensures in
    c.in_ok-plan_pull.ensures.1
    ∙ (λ i. weight c i * (c.in_ok-pull_of.ensures.1 ∙ (λ i. sizes.state i * sizes.linear i + sizes.constant i + 2 * c.args.r * sizes.rows i)) i)

-- the numbers that are gathered
abbrev gathered : After-radii_of → ErrorSums
gathered c = record {
  first = c.div_ceil.result;
  lead = c.div_ceil-2.result;
  tail = c.in_ok-limited_product.field-0;
  y_rows = 2 * c.args.r * c.rows.result;
  nu = c.rows-2.result;
  n_box = c.args.parts.now.states * c.sizes_of-sizes.result.state;
  rho = c.unsigned_abs-rho.result;
  x_box = c.sizes_of-sizes.result.state;
  y_top = 2 * c.args.r;
  weight_den = c.unsigned_abs-weight_den.result;
  radii = c.radii_of.result;
}

are : (c : After-radii_of) → sums_of (gathered c) ≡ error_sums_of (design_of c.args.parts.now) (held c.args.c.now) c.args.r
are c =
    let p = c.args.parts.now in
    let form = c.requires.form in
    let sizes = c.sizes_of-sizes.ensures in
    let radii = c.radii_of.ensures.radii in
    let combined = reach_is (is_fine (design_of p)) p c.args.c.now form c.args.r _ _ sizes.state c.rows.ensures.count in
    (λ i. record {
      first = (first c ∙ (λ i. ceil_div (squared c i) (2 * rho c i))) i;
      lead = (lead c ∙ (λ i. ceil_div (pulled c i) (2 * rho c i))) i;
      tail = (c.in_ok-limited_product.ensures.1 ∙ (λ i. weight c i * combined i * sizes.trace i)) i;
      top_rows = 2 * c.args.r * count_is (is_fine (design_of p)) p c.args.c.now form _ c.rows.ensures.count i;
      plan_entries = (c.rows-2.ensures.count ∙ form.shapes.hess.rows) i;
      box_states = p.states * sizes.state i;
      rho = rho c i;
      state = sizes.state i;
      top = 2 * c.args.r;
      hessian_radius = radii.hessian i;
      linear_radius = radii.linear i;
      constant_radius = radii.constant i;
      column_radius = radii.column i;
      plan_radius = radii.plan i;
      state_radius = radii.state i;
      cost_scale = radii.cost_scale i;
      row_scale = radii.row_scale i;
      weight_scale = weight c i;
      spread = radii.spread i;
    })

size : (c : After-radii_of) → size_by c.in_ok-squares.squares c.in_ok-plan_pull.plan_pull (sums_of (gathered c)) ≡ error_size (design_of c.args.parts.now) (held c.args.c.now) c.args.r
size c = size_of (gathered c) _ _ (design_of c.args.parts.now) (held c.args.c.now) c.args.r (squared c) (pulled c) (are c)

pub size-requires-clause-room : goal.size-requires-clause-room
size-requires-clause-room c =
    let b = (goal.at.size-requires-clause-room c).After-radii_of in
    room_of (gathered b) _ _ c.args.parts.now (held c.args.c.now) c.args.r c.requires.form.design c.requires.some c.requires.narrow c.sizes_of-sizes.ensures.near
    (first b) (within_of c.in_ok-squares.ensures.1 c.in_ok-squares.ensures.0) (lead b) (within_of c.in_ok-plan_pull.ensures.1 c.in_ok-plan_pull.ensures.0)
    (within_of c.in_ok-limited_product.ensures.1 c.in_ok-limited_product.ensures.0) c.radii_of.ensures.room (are b)

pub size-requires-clause-squares : goal.size-requires-clause-squares
size-requires-clause-squares c = within_of c.in_ok-squares.ensures.1 c.in_ok-squares.ensures.0

pub size-requires-clause-plan_pull : goal.size-requires-clause-plan_pull
size-requires-clause-plan_pull c = within_of c.in_ok-plan_pull.ensures.1 c.in_ok-plan_pull.ensures.0

pub returns-in_err-size : goal.returns-in_err-size
returns-in_err-size c = nothing _ _ _ c.from_residual-in_err-size.ensures (λ h. c.in_err-size.ensures (within_of (size (goal.at.returns-in_err-size c).After-radii_of) h))

pub returns : goal.returns
returns c = let b = (goal.at.returns c).After-radii_of in (within_of (sym (size b)) c.in_ok-size.ensures.0, are b)

floor_small : {n m : ℕ} → n ≡ m → m ≤ 2 ^ 31 → Fits w128 (2 * n)
floor_small e h = omega (arith, e, h)

pub overflow_mul-rho : goal.overflow_mul-rho
overflow_mul-rho c =
    let k : SFits w128 c.args.c.now.input_floor = search rules in
    let rho = read_size _ _ k c.unsigned_abs-rho.ensures.value ∙ floor_is (is_fine (design_of c.args.parts.now)) c.args.parts.now c.args.c.now c.requires.form in
    floor_small rho (floor_range c.args.parts.now c.requires.form.design).1

pub overflow_mul-rho-2 : goal.overflow_mul-rho-2
overflow_mul-rho-2 c =
    let k : SFits w128 c.args.c.now.input_floor = search rules in
    let rho = read_size _ _ k c.unsigned_abs-rho.ensures.value ∙ floor_is (is_fine (design_of c.args.parts.now)) c.args.parts.now c.args.c.now c.requires.form in
    floor_small rho (floor_range c.args.parts.now c.requires.form.design).1

pub div_ceil-requires : goal.div_ceil-requires
div_ceil-requires c =
    let k : SFits w128 c.args.c.now.input_floor = search rules in
    let rho = read_size _ _ k c.unsigned_abs-rho.ensures.value ∙ floor_is (is_fine (design_of c.args.parts.now)) c.args.parts.now c.args.c.now c.requires.form in
    doubled _ (rw rho (floor_range c.args.parts.now c.requires.form.design).0)

pub div_ceil-requires-2 : goal.div_ceil-requires-2
div_ceil-requires-2 c =
    let k : SFits w128 c.args.c.now.input_floor = search rules in
    let rho = read_size _ _ k c.unsigned_abs-rho.ensures.value ∙ floor_is (is_fine (design_of c.args.parts.now)) c.args.parts.now c.args.c.now c.requires.form in
    doubled _ (rw rho (floor_range c.args.parts.now c.requires.form.design).0)

pub overflow_add-combined-2 : goal.overflow_add-combined-2
overflow_add-combined-2 c =
    let p = c.args.parts.now in
    let form = c.requires.form in
    let count = count_is (is_fine (design_of p)) p c.args.c.now form _ c.rows.ensures.count in
    let bounds = few p form.design in
    let small = reach_small 1 p.states c.sizes_of-sizes.result.state c.args.r c.rows.result one bounds.states c.sizes_of-sizes.ensures.near c.requires.narrow (rw count bounds.rows) in
    record { fits = single small }

-- what the box and the rows reach is small
box_small : (n s : ℕ) → n ≤ 6 → s ≤ 2 ^ 31 → n * s + 1 ≤ 2 ^ 80
box_small n s h k = omega (arith, mul-le n s 6 (2 ^ 31) h k)

rows_small : (r m : ℕ) → r ≤ 2 ^ 44 → m ≤ 372 → 2 * r * m ≤ 2 ^ 80
rows_small r m h k = omega (arith, mul-le (2 * r) m (2 ^ 45) 372 (omega (arith, h)) k)

twice_small : (r : ℕ) → r ≤ 2 ^ 44 → 2 * r ≤ 2 ^ 80
twice_small r h = omega (arith, h)

part_small : (n : ℕ) → n + 1 ≤ 2 ^ 80 → n ≤ 2 ^ 80
part_small n h = omega (arith, h)

pub overflow_mul-n_box : goal.overflow_mul-n_box
overflow_mul-n_box c = fits (part_small _ (box_small c.args.parts.now.states c.sizes_of-sizes.result.state (few c.args.parts.now c.requires.form.design).states c.sizes_of-sizes.ensures.near))

pub overflow_add-combined : goal.overflow_add-combined
overflow_add-combined c = fits (box_small c.args.parts.now.states c.sizes_of-sizes.result.state (few c.args.parts.now c.requires.form.design).states c.sizes_of-sizes.ensures.near)

pub overflow_mul-y_rows : goal.overflow_mul-y_rows
overflow_mul-y_rows c = fits (twice_small c.args.r c.requires.narrow)

pub overflow_mul-sums : goal.overflow_mul-sums
overflow_mul-sums c = fits (twice_small c.args.r c.requires.narrow)

pub overflow_mul-y_rows-2 : goal.overflow_mul-y_rows-2
overflow_mul-y_rows-2 c =
    let p = c.args.parts.now in
    let count = count_is (is_fine (design_of p)) p c.args.c.now c.requires.form _ c.rows.ensures.count in
    fits (rows_small c.args.r c.rows.result c.requires.narrow (rw count (few p c.requires.form.design).rows))
