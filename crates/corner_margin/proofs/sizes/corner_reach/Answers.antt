use Rattle.std.proofs.Common.{◌≡◌, ℕ, ◌*◌, ◌^◌, ◌≤◌, subst, sym, ap₂, ◌∙◌}
use Rattle.qp_model.specs.problem.Parts.{design_of}
use Rattle.qp_model.specs.problem.Policy.{plans_of}
use Rattle.qp_model.specs.form.Quantities.{limit_width}
use Rattle.corner_margin.specs.Corner.{reach_in}
use Rattle.corner_margin.proofs.SizeFacts.{slack_states, slack_row, slack_of, row_within}
use Rattle.corner_margin.proofs.sizes.corner_reach.Goals as goal

pub returns-in_err-reach : goal.returns-in_err-reach
returns-in_err-reach c = rw c.from_residual.ensures (λ h. c.in_err-reach.ensures (slack_states c.args.fine c.args.parts.now (plans_of c.args.policy.now) c.requires.design h))

pub returns-in_err-row : goal.returns-in_err-row
returns-in_err-row c =
    let d = design_of c.args.parts.now in
    let s = plans_of c.args.policy.now in
    let row : c.limit_width.result * c.in_ok-reach.reach ≡ limit_width d * reach_in c.args.fine d s = ap₂ (λ (x y : ℕ). x * y) c.limit_width.ensures c.in_ok-reach.ensures.1 in
    rw c.from_residual-in_err-row.ensures (λ h. c.in_err-row.ensures (subst (λ (n : ℕ). n ≤ 2 ^ 126) (sym row) (row_within _ (slack_row c.args.fine d s h))))

pub returns-in_err-limited_product : goal.returns-in_err-limited_product
returns-in_err-limited_product c =
    let d = design_of c.args.parts.now in
    let s = plans_of c.args.policy.now in
    let row : c.in_ok-row.row ≡ limit_width d * reach_in c.args.fine d s = c.in_ok-row.ensures.1 ∙ ap₂ (λ (x y : ℕ). x * y) c.limit_width.ensures c.in_ok-reach.ensures.1 in
    rw c.from_residual-in_err-limited_product.ensures
    (λ h. c.in_err-limited_product.ensures (subst (λ (n : ℕ). 2 ^ 17 * n ≤ 2 ^ 126) (sym row) (slack_row c.args.fine d s h)))

pub returns : goal.returns
returns c =
    let d = design_of c.args.parts.now in
    let s = plans_of c.args.policy.now in
    let row : c.in_ok-row.row ≡ limit_width d * reach_in c.args.fine d s = c.in_ok-row.ensures.1 ∙ ap₂ (λ (x y : ℕ). x * y) c.limit_width.ensures c.in_ok-reach.ensures.1 in (
      slack_of c.args.fine d s (subst (λ (n : ℕ). 2 ^ 17 * n ≤ 2 ^ 126) row c.in_ok-limited_product.ensures.0) c.in_ok-reach.ensures.0,
      c.in_ok-reach.ensures.1,
    )
