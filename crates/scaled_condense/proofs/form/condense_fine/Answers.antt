use Rattle.std.proofs.Common.{◌≡◌, inl, inr, Err, true, ap, ◌∙◌}
use Rattle.std.proofs.lemmas.Result.{err_from_is_err_and}
use Rattle.qp_model.specs.declared.quantity.Quantity.{Quantity}
use Rattle.qp_model.specs.problem.Parts.{design_of}
use Rattle.qp_model.specs.declared.size_fault.SizeFault.{SizeFault}
use Rattle.qp_model.specs.declared.size_fault.SizeFault.TheVariants.{TooWide}
use Rattle.condensed_form.specs.Fault.{IsFirstWideIn}
use Rattle.scaled_condense.proofs.FaultFacts.{refused, none_wide, same_fault, memory_apart}
use Rattle.scaled_condense.proofs.form.condense_fine.Goals as goal

pub returns-in_err-numbers-clause-every_refusal : goal.returns-in_err-numbers-clause-every_refusal
returns-in_err-numbers-clause-every_refusal c = λ q w.
    let fault : SizeFault = c.in_err-numbers.field-0.0 in
    let given = err_from_is_err_and c.from_residual.result c.from_residual.ensures.1 in
    let gives : c.from_residual.result ≡ Err fault = given.1 ∙ ap Err given.2 in
    let wide : (r : Quantity) → fault ≡ TooWide r → IsFirstWideIn true (design_of c.args.design.now) r =
    λ r e. rw (← c.parts-parts.ensures.value) (c.fine_numbers.ensures.wide r (c.in_err-numbers.was ∙ ap Err e)) in
    elim (refused (design_of c.args.design.now) fault wide q w) [
      | inl e ↦ inl (gives ∙ ap Err e)
      | inr e ↦ inr (gives ∙ ap Err e)
    ]

pub returns-in_err-numbers-clause-wide : goal.returns-in_err-numbers-clause-wide
returns-in_err-numbers-clause-wide c = λ q e.
    let given = err_from_is_err_and c.from_residual.result c.from_residual.ensures.1 in
    let fault : c.in_err-numbers.field-0.0 ≡ TooWide q = same_fault (given.1 ∙ ap Err given.2) e in
    rw (← c.parts-parts.ensures.value) (c.fine_numbers.ensures.wide q (c.in_err-numbers.was ∙ ap Err fault))

pub returns-clause-every_refusal : goal.returns-clause-every_refusal
returns-clause-every_refusal c = λ q w.
    let d = design_of c.parts-parts.result.now in
    let first : IsFirstWideIn true d q = rw c.parts-parts.ensures.value w in
    absurd (none_wide d c.in_ok-numbers.ensures.prediction c.in_ok-numbers.ensures.costs.room c.in_ok-numbers.ensures.limits.room q first)

pub returns-in_err-form_of-clause-wide : goal.returns-in_err-form_of-clause-wide
returns-in_err-form_of-clause-wide c = λ q e.
    let given = err_from_is_err_and c.from_residual-in_err-form_of.result c.from_residual-in_err-form_of.ensures.1 in
    absurd (memory_apart q (same_fault (given.1 ∙ ap Err given.2) e))

pub returns-in_err-form_of-clause-every_refusal : goal.returns-in_err-form_of-clause-every_refusal
returns-in_err-form_of-clause-every_refusal c = λ q w.
    let given = err_from_is_err_and c.from_residual-in_err-form_of.result c.from_residual-in_err-form_of.ensures.1 in
    inr (given.1 ∙ ap Err given.2)

pub returns-clause-form : goal.returns-clause-form
returns-clause-form c = rw (← c.parts-parts.ensures.value) c.in_ok-form_of.ensures

pub form_of-requires-clause-costs : goal.form_of-requires-clause-costs
form_of-requires-clause-costs c = c.in_ok-numbers.ensures.costs

pub form_of-requires-clause-limits : goal.form_of-requires-clause-limits
form_of-requires-clause-limits c = c.in_ok-numbers.ensures.limits
