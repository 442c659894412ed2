use Rattle.std.proofs.Common.{◌≡◌, ◌+◌, ◌*◌, Option, None, arith, ap, sym, ◌∙◌}
use Rattle.std.specs.Option.{MatchOption}
use Rattle.qp_model.specs.form.Quantities.{input_floor}
use Rattle.qp_model.specs.problem.Parts.{design_of}
use Rattle.qp_model.specs.bounds.Errors as errors
use Rattle.qp_model.specs.bounds.Errors.{plan_pull}
use Rattle.condensed_form.specs.Form.{held}
use Rattle.step_error.specs.declared.sums.ErrorSums.{ErrorSums}
use Rattle.step_error.specs.ErrorSums.{sums_of, size_by}
use Rattle.step_error.specs.RunSums.{sums_by, run_size_by}
use Rattle.step_error.proofs.Ceilings.{quotient_is}
use Rattle.step_error.proofs.SumFacts.{within_of}
use Rattle.step_error.proofs.RunLaws.{IsStepOf, weight, rho, spread, fit, some_floor, some_rho, small_rho, small_weight, parts, run_room}
use Rattle.step_error.proofs.runs.carried_sums.Goals as goal
use Rattle.step_error.proofs.runs.carried_sums.Goals.{After-radii_of}

-- no sums, and the reason
nothing : {T : Type 0} (r : Option T) (p : Type 0) (q : T → Type 0) → r ≡ None → (p → ⊥) → MatchOption r (¬ p) q
nothing r p q e h = rw e h

pub sizes_of-requires : goal.sizes_of-requires
sizes_of-requires c = c.requires.form

pub radii_of-requires : goal.radii_of-requires
radii_of-requires c = c.requires.form

pub pull_of-requires : goal.pull_of-requires
pull_of-requires c = c.requires.narrow

-- ---- no sums
pub returns-in_err-pull_of : goal.returns-in_err-pull_of
returns-in_err-pull_of c =
    let k : IsStepOf c.args.parts.now c.args.c.now c.args.step.now c.args.r c.args.times = record { form = c.requires.form; step = c.requires.step; room = c.requires.room; often = c.requires.often; few_times = c.requires.few } in
    let sizes = c.sizes_of.ensures in
    nothing _ _ _ c.from_residual.ensures (λ o. c.in_err-pull_of.ensures
    (within_of (λ i. sizes.state i * sizes.linear i + sizes.constant i + 2 * c.args.r * sizes.rows i) (fit k).pulling))

pub returns-in_err-plan_pull : goal.returns-in_err-plan_pull
returns-in_err-plan_pull c =
    let k : IsStepOf c.args.parts.now c.args.c.now c.args.step.now c.args.r c.args.times = record { form = c.requires.form; step = c.requires.step; room = c.requires.room; often = c.requires.often; few_times = c.requires.few } in
    let sizes = c.sizes_of.ensures in
    let pulling = c.in_ok-pull_of.ensures.1 ∙ (λ i. sizes.state i * sizes.linear i + sizes.constant i + 2 * c.args.r * sizes.rows i) in
    nothing _ _ _ c.from_residual-in_err-plan_pull.ensures (λ o. c.in_err-plan_pull.ensures (within_of (λ i. weight k i * pulling i) (fit k).pulled))

pub returns-in_err-squares : goal.returns-in_err-squares
returns-in_err-squares c =
    let k : IsStepOf c.args.parts.now c.args.c.now c.args.step.now c.args.r c.args.times = record { form = c.requires.form; step = c.requires.step; room = c.requires.room; often = c.requires.often; few_times = c.requires.few } in
    nothing _ _ _ c.from_residual-in_err-squares.ensures (λ o. c.in_err-squares.ensures (within_of (λ i. weight k i * c.args.errors) (parts k c.args.errors o).squares))

pub overflow_mul-step : goal.overflow_mul-step
overflow_mul-step c =
    let k : IsStepOf c.args.parts.now c.args.c.now c.args.step.now c.args.r c.args.times = record { form = c.requires.form; step = c.requires.step; room = c.requires.room; often = c.requires.often; few_times = c.requires.few } in
    omega (arith, small_rho k)

pub div_ceil-requires : goal.div_ceil-requires
div_ceil-requires c =
    let k : IsStepOf c.args.parts.now c.args.c.now c.args.step.now c.args.r c.args.times = record { form = c.requires.form; step = c.requires.step; room = c.requires.room; often = c.requires.often; few_times = c.requires.few } in
    some_rho k

pub returns-in_err-limited_product : goal.returns-in_err-limited_product
returns-in_err-limited_product c =
    let k : IsStepOf c.args.parts.now c.args.c.now c.args.step.now c.args.r c.args.times = record { form = c.requires.form; step = c.requires.step; room = c.requires.room; often = c.requires.often; few_times = c.requires.few } in
    let first = quotient_is _ _ _ ((design_of c.args.parts.now).cost_denominator * c.args.errors) (2 * input_floor (design_of c.args.parts.now)) (some_floor k) c.div_ceil.ensures
    (c.in_ok-squares.ensures.1 ∙ (λ i. weight k i * c.args.errors)) (λ i. 2 * rho k i) in
    nothing _ _ _ c.from_residual-in_err-limited_product.ensures (λ o. c.in_err-limited_product.ensures (within_of (λ i. c.args.times * first i) (parts k c.args.errors o).first))

pub overflow_mul-sums : goal.overflow_mul-sums
overflow_mul-sums c =
    let k : IsStepOf c.args.parts.now c.args.c.now c.args.step.now c.args.r c.args.times = record { form = c.requires.form; step = c.requires.step; room = c.requires.room; often = c.requires.often; few_times = c.requires.few } in
    omega (arith, small_weight k)

-- ---- the sums
abbrev gathered : After-radii_of → ErrorSums
gathered c = record c.args.step.now { first = c.in_ok-limited_product.field-0; weight_den = c.args.step.now.weight_den * c.args.times; radii = c.radii_of.result }

squared : (c : After-radii_of) → c.in_ok-squares.squares ≡ (design_of c.args.parts.now).cost_denominator * c.args.errors
squared c =
    let k : IsStepOf c.args.parts.now c.args.c.now c.args.step.now c.args.r c.args.times = record { form = c.requires.form; step = c.requires.step; room = c.requires.room; often = c.requires.often; few_times = c.requires.few } in
    c.in_ok-squares.ensures.1 ∙ (λ i. weight k i * c.args.errors)

pulled : (c : After-radii_of) → c.in_ok-plan_pull.plan_pull ≡ plan_pull (design_of c.args.parts.now) (held c.args.c.now) c.args.r
pulled c =
    let k : IsStepOf c.args.parts.now c.args.c.now c.args.step.now c.args.r c.args.times = record { form = c.requires.form; step = c.requires.step; room = c.requires.room; often = c.requires.often; few_times = c.requires.few } in
    let sizes = c.sizes_of.ensures in
    c.in_ok-plan_pull.ensures.1
    ∙ (λ i. weight k i * (c.in_ok-pull_of.ensures.1 ∙ (λ i. sizes.state i * sizes.linear i + sizes.constant i + 2 * c.args.r * sizes.rows i)) i)

are : (c : After-radii_of) → sums_of (gathered c) ≡ sums_by (design_of c.args.parts.now) (held c.args.c.now) c.args.r c.args.times c.args.errors
are c =
    let k : IsStepOf c.args.parts.now c.args.c.now c.args.step.now c.args.r c.args.times = record { form = c.requires.form; step = c.requires.step; room = c.requires.room; often = c.requires.often; few_times = c.requires.few } in
    let step = c.requires.step in
    let radii = c.radii_of.ensures.radii in
    let first = quotient_is _ _ _ ((design_of c.args.parts.now).cost_denominator * c.args.errors) (2 * input_floor (design_of c.args.parts.now)) (some_floor k) c.div_ceil.ensures
    (squared c) (λ i. 2 * rho k i) in
    (λ i. record {
      first = (c.in_ok-limited_product.ensures.1 ∙ (λ i. c.args.times * first i)) i;
      lead = (step i).lead;
      tail = (step i).tail;
      top_rows = (step i).top_rows;
      plan_entries = (step i).plan_entries;
      box_states = (step i).box_states;
      rho = (step i).rho;
      state = (step i).state;
      top = (step i).top;
      hessian_radius = radii.hessian i;
      linear_radius = radii.linear i;
      constant_radius = radii.constant i;
      column_radius = radii.column i;
      plan_radius = radii.plan i;
      state_radius = radii.state i;
      cost_scale = radii.cost_scale i;
      row_scale = radii.row_scale i;
      weight_scale = (step i).weight_scale * c.args.times;
      spread = radii.spread i;
    })

size : (c : After-radii_of) → size_by c.in_ok-squares.squares c.in_ok-plan_pull.plan_pull (sums_of (gathered c)) ≡
    run_size_by (design_of c.args.parts.now) (held c.args.c.now) c.args.r c.args.times c.args.errors
size c = λ i. size_by (squared c i) (pulled c i) (are c i)

pub size-requires-clause-room : goal.size-requires-clause-room
size-requires-clause-room c =
    let k : IsStepOf c.args.parts.now c.args.c.now c.args.step.now c.args.r c.args.times = record { form = c.requires.form; step = c.requires.step; room = c.requires.room; often = c.requires.often; few_times = c.requires.few } in
    let b = (goal.at.size-requires-clause-room c).After-radii_of in
    let near = within_of (ap (λ (s : errors.ErrorSums). s.state) c.requires.step ∙ sym c.sizes_of.ensures.state) c.sizes_of.ensures.near in
    run_room (gathered b) c.args.parts.now (held c.args.c.now) c.args.r c.args.times c.args.errors c.requires.form.design (spread k) c.requires.some c.requires.narrow near
    c.requires.room (within_of c.in_ok-limited_product.ensures.1 c.in_ok-limited_product.ensures.0) c.requires.often c.requires.few c.radii_of.ensures.room (are b)

pub size-requires-clause-squares : goal.size-requires-clause-squares
size-requires-clause-squares c = within_of c.in_ok-squares.ensures.1 c.in_ok-squares.ensures.0

pub size-requires-clause-plan_pull : goal.size-requires-clause-plan_pull
size-requires-clause-plan_pull c = within_of c.in_ok-plan_pull.ensures.1 c.in_ok-plan_pull.ensures.0

pub returns-in_err-size : goal.returns-in_err-size
returns-in_err-size c = nothing _ _ _ c.from_residual-in_err-size.ensures (λ o. c.in_err-size.ensures (within_of (size (goal.at.returns-in_err-size c).After-radii_of) o))

pub returns : goal.returns
returns c = let b = (goal.at.returns c).After-radii_of in (within_of (sym (size b)) c.in_ok-size.ensures.0, are b)
