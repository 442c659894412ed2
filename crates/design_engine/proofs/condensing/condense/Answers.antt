use Rattle.std.proofs.Common.{◌≡◌, inr, Bool, false, refl, sym, subst}
use Rattle.std.specs.Prelude.{IfOk}
use Rattle.std.proofs.lemmas.Result.{IfOk-from_err}
use Rattle.qp_model.specs.problem.Parts.{design_of}
use Rattle.qp_model.specs.form.FineSizes.{is_fine}
use Rattle.condensed_form.specs.Form.{IsFormIn}
use Rattle.design_engine.proofs.ClassFacts.{none_wide, fine, fine_wide, wide_fine, exact_held, out_of_memory}
use Rattle.design_engine.proofs.condensing.condense.Goals as goal

-- ---- out of memory
pub returns-in_err-condensed-clause-form : goal.returns-in_err-condensed-clause-form
returns-in_err-condensed-clause-form c = IfOk-from_err c.from_residual.result _ c.from_residual.ensures.0

pub returns-in_err-condensed-clause-wide : goal.returns-in_err-condensed-clause-wide
returns-in_err-condensed-clause-wide c = λ q e. absurd (let memory = out_of_memory c.from_residual.result c.from_residual.ensures.1 in cc)

pub returns-in_err-condensed-clause-every_refusal : goal.returns-in_err-condensed-clause-every_refusal
returns-in_err-condensed-clause-every_refusal c = λ q w. inr (out_of_memory c.from_residual.result c.from_residual.ensures.1)

-- ---- the exact form
pub returns-in-Some-clause-form : goal.returns-in-Some-clause-form
returns-in-Some-clause-form c =
    exact_held c.args.design.now c.in_ok-condensed.field-0 c.in-Some.condensed c.in-Some.is c.in_ok-condensed.ensures.class c.in_ok-condensed.ensures.form

pub returns-in-Some-clause-wide : goal.returns-in-Some-clause-wide
returns-in-Some-clause-wide c = λ q e. absurd (cc)

pub returns-in-Some-clause-every_refusal : goal.returns-in-Some-clause-every_refusal
returns-in-Some-clause-every_refusal c =
    let d = design_of c.args.design.now in
    let exact : is_fine d ≡ false = c.in_ok-condensed.ensures.class.0 (rw c.in-Some.is refl) in
    λ q w. absurd (none_wide d q exact w)

-- ---- in enclosures
pub returns-in-None-clause-form : goal.returns-in-None-clause-form
returns-in-None-clause-form c =
    let p = c.args.design.now in
    subst (λ (b : Bool). IfOk c.condense_fine.result (λ condensed. IsFormIn b p condensed))
    (sym (fine (design_of p) c.in_ok-condensed.field-0 c.in_ok-condensed.ensures.class c.in-None.is)) c.condense_fine.ensures.form

pub returns-in-None-clause-wide : goal.returns-in-None-clause-wide
returns-in-None-clause-wide c =
    λ q e. fine_wide (design_of c.args.design.now) c.in_ok-condensed.field-0 c.in_ok-condensed.ensures.class c.in-None.is q (c.condense_fine.ensures.wide q e)

pub returns-in-None-clause-every_refusal : goal.returns-in-None-clause-every_refusal
returns-in-None-clause-every_refusal c =
    λ q w. c.condense_fine.ensures.every_refusal q (wide_fine (design_of c.args.design.now) c.in_ok-condensed.field-0 c.in_ok-condensed.ensures.class c.in-None.is q w)
