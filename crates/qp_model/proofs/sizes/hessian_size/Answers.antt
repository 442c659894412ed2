use Rattle.std.proofs.Common.{ℕ, ◌+◌, ◌*◌, ◌^◌, ◌<◌, ◌≤◌, ◌∙◌, sym, subst, arith, refl}
use Rattle.std.proofs.Math.Nat.{mul-le-mul, one-le-mul}
use Rattle.std.specs.Option.{SomeIff}
use Rattle.qp_model.specs.problem.Design.{entries}
use Rattle.qp_model.specs.problem.Parts.{design_of}
use Rattle.qp_model.specs.form.Quantities.{cost_width, weight_sum, prediction_size}
use Rattle.qp_model.proofs.VersionLaws.{design_states_le, design_entries_le}
use Rattle.qp_model.proofs.SizeFacts.{hessian_parts, hessian_value, some_weight, some_cost, some_entry}
use Rattle.qp_model.proofs.sizes.hessian_size.Goals as goal

pub returns-in_err-prediction_size : goal.returns-in_err-prediction_size
returns-in_err-prediction_size c = rw c.from_residual.ensures (λ h. c.in_err-prediction_size.ensures
    (let p = c.args.parts.now in let d = design_of p in
    (hessian_parts (entries d) p.states (weight_sum d) (cost_width d) (prediction_size d) _ (some_entry p c.requires) (some_weight p c.requires) (some_cost p c.requires) h).1))

pub returns-in_err-response : goal.returns-in_err-response
returns-in_err-response c = rw c.from_residual-in_err-response.ensures (λ h. c.in_err-response.ensures
    (let p = c.args.parts.now in let d = design_of p in
    rw (c.cost_width.ensures, c.in_ok-prediction_size.ensures.1)
    (hessian_parts (entries d) p.states (weight_sum d) (cost_width d) (prediction_size d) _ (some_entry p c.requires) (some_weight p c.requires) (some_cost p c.requires) h).0))

pub limited_area-requires : goal.limited_area-requires
limited_area-requires c = one-le-mul (one-le-mul (one-le-mul (some_entry c.args.parts.now c.requires) (omega arith)) (omega arith)) c.weight_sum.ensures.some

pub returns : goal.returns
returns c =
    let p = c.args.parts.now in let d = design_of p in
    let P : ℕ → Type 0 = λ z. SomeIff c.limited_area.result (z ≤ 2 ^ 126) z in
    subst P (sym (hessian_value (entries d * (entries d + p.states + 1)) (weight_sum d) c.weight_sum.result c.in_ok-response.response (cost_width d) (prediction_size d) (prediction_size d)
    c.weight_sum.ensures.sum (c.in_ok-response.ensures.1 ∙ rw (c.cost_width.ensures, c.in_ok-prediction_size.ensures.1) refl) refl)) c.limited_area.ensures

-- the count of the entries, and twice it times the weights
few : (entries states : ℕ) → entries ≤ 90 → states ≤ 6 → entries * (entries + states + 1) ≤ 8730
few entries states e n =
    let beside : entries + states + 1 ≤ 97 = omega (arith, e, n) in
    mul-le-mul e beside

fits : (entries states weight : ℕ) → entries ≤ 90 → states ≤ 6 → weight < 2 ^ 64 → entries * (entries + states + 1) * 2 * weight < 2 ^ 128
fits entries states weight e n w =
    let twice : entries * (entries + states + 1) * 2 ≤ 17460 = omega (arith, few entries states e n) in
    let weights : weight ≤ 2 ^ 64 = omega (arith, w) in
    let all : entries * (entries + states + 1) * 2 * weight ≤ 17460 * 2 ^ 64 = mul-le-mul twice weights in
    omega (arith, all)

pub overflow_mul-entries : goal.overflow_mul-entries
overflow_mul-entries c = record { fits = omega (arith, design_entries_le c.args.parts.now c.requires) }

pub overflow_add-count : goal.overflow_add-count
overflow_add-count c = record { fits = omega (arith, design_entries_le c.args.parts.now c.requires, design_states_le c.args.parts.now c.requires) }

pub overflow_add-count-2 : goal.overflow_add-count-2
overflow_add-count-2 c = record { fits = omega (arith, design_entries_le c.args.parts.now c.requires, design_states_le c.args.parts.now c.requires) }

pub overflow_mul-count : goal.overflow_mul-count
overflow_mul-count c =
    let p = c.args.parts.now in
    record { fits = omega (arith, few (p.stages * p.inputs) p.states (design_entries_le p c.requires) (design_states_le p c.requires)) }

pub overflow_mul-count-2 : goal.overflow_mul-count-2
overflow_mul-count-2 c =
    let p = c.args.parts.now in
    record { fits = omega (arith, few (p.stages * p.inputs) p.states (design_entries_le p c.requires) (design_states_le p c.requires)) }

pub overflow_mul-count-3 : goal.overflow_mul-count-3
overflow_mul-count-3 c =
    let p = c.args.parts.now in
    record { fits = fits (p.stages * p.inputs) p.states c.weight_sum.result (design_entries_le p c.requires) (design_states_le p c.requires) c.weight_sum.ensures.small }
