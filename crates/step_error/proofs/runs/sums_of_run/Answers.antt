use Rattle.std.proofs.Common.{◌≡◌, ℕ, ◌+◌, ◌*◌, ◌^◌, ◌≤◌, Option, None, length, arith, ap, subst, ◌∙◌}
use Rattle.std.specs.Option.{MatchOption}
use Rattle.std.proofs.Math.Nat.{mul_comm}
use Rattle.integer_algebra.specs.Sizes.{amount}
use Rattle.qp_model.specs.problem.Design.{rows}
use Rattle.qp_model.specs.problem.Parts.{design_of}
use Rattle.qp_model.specs.bounds.Errors.{plan_pull, combined_bound, state_bound}
use Rattle.qp_model.proofs.SizeFacts.{factor_under, positive}
use Rattle.condensed_form.specs.Form.{held}
use Rattle.step_error.specs.ErrorSums.{sums_of}
use Rattle.step_error.specs.CarriedErrors.{run_sums_of}
use Rattle.step_error.specs.RunSums.{mean_squares, error_with_mean, sums_by, run_size_by}
use Rattle.step_error.proofs.MadeFacts.{combined_small}
use Rattle.step_error.proofs.RunLaws.{run_parts}
use Rattle.step_error.proofs.SumFacts.{bounded, spread_range, within_of}
use Rattle.step_error.proofs.runs.sums_of_run.Goals as goal
use Rattle.step_error.proofs.runs.sums_of_run.Goals.{Start}

-- no sums, and the reason
nothing : {T : Type 0} (r : Option T) (p : Type 0) (q : T → Type 0) → r ≡ None → (p → ⊥) → MatchOption r (¬ p) q
nothing r p q e h = rw e h

reach : (c : Start) → c.args.step.now.n_box + 1 + c.args.step.now.y_rows ≡ combined_bound (design_of c.args.parts.now) c.args.r
reach c = (λ i. (c.requires.step i).box_states + 1 + (c.requires.step i).top_rows) ∙
    ap (λ (n : ℕ). (design_of c.args.parts.now).states * state_bound (design_of c.args.parts.now) + 1 + n) (mul_comm (2 * c.args.r) (rows (design_of c.args.parts.now)))

squares : (c : Start) → amount (length c.args.c.now.hess.rows) (λ j. error_with_mean c.args.c.now (c.args.step.now.n_box + 1 + c.args.step.now.y_rows) c.args.s c.args.exps.now j ^ 2) ≡
    mean_squares (design_of c.args.parts.now) (held c.args.c.now) c.args.r c.args.s c.args.exps.now
squares c = λ i. amount (c.requires.form.shapes.hess.rows i) (λ j. error_with_mean c.args.c.now (reach c i) c.args.s c.args.exps.now j ^ 2)

pub overflow_add-step : goal.overflow_add-step
overflow_add-step c = omega (arith, combined_small (sums_of c.args.step.now) (bounded c.args.step.now c.requires.sums))

pub overflow_add-step-2 : goal.overflow_add-step-2
overflow_add-step-2 c = omega (arith, combined_small (sums_of c.args.step.now) (bounded c.args.step.now c.requires.sums))

pub returns-in_err-errors : goal.returns-in_err-errors
returns-in_err-errors c =
    let a = (goal.at.returns-in_err-errors c).Start in
    let p = c.args.parts.now in
    let d = design_of p in
    let h = held c.args.c.now in
    nothing _ _ _ c.from_residual.ensures (λ k. c.in_err-errors.ensures (within_of (squares a)
    (factor_under d.cost_denominator (mean_squares d h c.args.r c.args.s c.args.exps.now) (2 ^ 126) (positive p.cost_den c.requires.form.design.cost_den.low)
    (run_parts _ (plan_pull d h c.args.r) (run_sums_of d h c.args.r c.args.k c.args.s c.args.exps.now) (spread_range c.args.c.now.fine).0 k).squares)))

pub returns : goal.returns
returns c =
    let a = (goal.at.returns c).Start in
    let d = design_of c.args.parts.now in
    let h = held c.args.c.now in
    let errors = c.in_ok-errors.ensures.1 ∙ squares a in
    subst (λ (v : ℕ × ℕ). MatchOption c.carried_sums.result (¬ (run_size_by d h c.args.r v.0 v.1 ≤ 2 ^ 126))
    (λ e. (run_size_by d h c.args.r v.0 v.1 ≤ 2 ^ 126) × (sums_of e ≡ sums_by d h c.args.r v.0 v.1)))
    (λ i. (c.carry_of.ensures.value i, errors i)) c.carried_sums.ensures

pub mean_squares-requires-clause-form : goal.mean_squares-requires-clause-form
mean_squares-requires-clause-form c = c.requires.form

pub mean_squares-requires-clause-count : goal.mean_squares-requires-clause-count
mean_squares-requires-clause-count c = c.requires.count

pub mean_squares-requires-clause-exponents : goal.mean_squares-requires-clause-exponents
mean_squares-requires-clause-exponents c = c.requires.exponents

pub mean_squares-requires-clause-exponent : goal.mean_squares-requires-clause-exponent
mean_squares-requires-clause-exponent c = c.requires.exponent

pub carried_sums-requires-clause-form : goal.carried_sums-requires-clause-form
carried_sums-requires-clause-form c = c.requires.form

pub carried_sums-requires-clause-some : goal.carried_sums-requires-clause-some
carried_sums-requires-clause-some c = c.requires.some

pub carried_sums-requires-clause-narrow : goal.carried_sums-requires-clause-narrow
carried_sums-requires-clause-narrow c = c.requires.narrow

pub carried_sums-requires-clause-step : goal.carried_sums-requires-clause-step
carried_sums-requires-clause-step c = c.requires.step

pub carried_sums-requires-clause-room : goal.carried_sums-requires-clause-room
carried_sums-requires-clause-room c = c.requires.room
