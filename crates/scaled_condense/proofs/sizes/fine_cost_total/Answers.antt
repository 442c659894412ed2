use Rattle.std.proofs.Common.{ℕ, ◌+◌, ◌*◌, ◌^◌, ◌≤◌, ◌∙◌, sym, subst, arith, refl}
use Rattle.std.proofs.Math.Nat.{one-le-mul}
use Rattle.std.specs.Option.{SomeIff}
use Rattle.qp_model.specs.problem.Design.{entries}
use Rattle.qp_model.specs.problem.Parts.{design_of}
use Rattle.qp_model.specs.form.Quantities.{cost_width, weight_sum}
use Rattle.qp_model.specs.form.FineSizes.{fine_reach}
use Rattle.qp_model.proofs.SizeFacts.{hessian_parts, hessian_value, some_weight, some_cost, some_entry}
use Rattle.scaled_condense.proofs.ColumnFacts.{entries_fit, states_fit, width_fits, area_fits}
use Rattle.scaled_condense.proofs.sizes.fine_cost_total.Goals as goal

pub returns-in_err-response : goal.returns-in_err-response
returns-in_err-response c = rw c.from_residual.ensures (λ h. c.in_err-response.ensures
    (let p = c.args.parts.now in let d = design_of p in
    rw (c.cost_width.ensures, c.requires.reach)
    (hessian_parts (entries d) p.states (weight_sum d) (cost_width d) (fine_reach d p.stages) _ (some_entry p c.requires.design) (some_weight p c.requires.design) (some_cost p c.requires.design) h).0))

pub limited_area-requires : goal.limited_area-requires
limited_area-requires c = one-le-mul (one-le-mul (one-le-mul (some_entry c.args.parts.now c.requires.design) (omega arith)) (omega arith)) c.weight_sum.ensures.some

pub returns : goal.returns
returns c =
    let p = c.args.parts.now in let d = design_of p in
    let P : ℕ → Type 0 = λ z. SomeIff c.limited_area.result (z ≤ 2 ^ 126) z in
    subst P (sym (hessian_value (entries d * (entries d + p.states + 1)) (weight_sum d) c.weight_sum.result c.in_ok-response.response (cost_width d) (fine_reach d p.stages) (fine_reach d p.stages)
    c.weight_sum.ensures.sum (c.in_ok-response.ensures.1 ∙ rw (c.cost_width.ensures, c.requires.reach) refl) refl)) c.limited_area.ensures

pub overflow_mul-entries : goal.overflow_mul-entries
overflow_mul-entries c = entries_fit c.args.parts.now c.requires.design

pub overflow_add-count : goal.overflow_add-count
overflow_add-count c = states_fit c.args.parts.now c.requires.design

pub overflow_add-count-2 : goal.overflow_add-count-2
overflow_add-count-2 c = width_fits c.args.parts.now c.requires.design

pub overflow_mul-count : goal.overflow_mul-count
overflow_mul-count c = area_fits c.args.parts.now c.requires.design
