use Rattle.std.proofs.Common.{◌≡◌, ◌↔◌, ◌^◌, ◌<◌, true, false, Err, ap}
use Rattle.std.specs.Prelude.{IsTrue}
use Rattle.qp_model.specs.declared.quantity.Quantity.TheVariants.{Prediction}
use Rattle.qp_model.specs.problem.Parts.{design_of}
use Rattle.qp_model.specs.form.Quantities.{prediction_size}
use Rattle.qp_model.specs.form.FineSizes.{is_fine}
use Rattle.condensed_form.specs.Form.{IsFormIn}
use Rattle.qp_model.specs.declared.size_fault.SizeFault.{SizeFault}
use Rattle.design_engine.proofs.ClassFacts.{limited_class, wide_class, chosen, kept}
use Rattle.design_engine.proofs.condensing.exact_form.Goals as goal

pub returns-in-Ok-clause-form : goal.returns-in-Ok-clause-form
returns-in-Ok-clause-form c = kept (λ condensed. IsFormIn false c.args.design.now condensed) _ c.in-Ok.condensed c.then_some.result c.then_some.ensures c.in-Ok.ensures.form

pub returns-in-Ok-clause-class : goal.returns-in-Ok-clause-class
returns-in-Ok-clause-class c =
    let p = c.args.design.now in
    let within : 2 ^ 126 < prediction_size (design_of p) → ⊥ = λ h. (let e = (c.in-Ok.ensures.wide Prediction).1 h in cc) in
    let class : IsTrue c.is_curvature_limited.result ↔ (is_fine (design_of p) ≡ false) =
    limited_class p c.in-Ok.condensed c.is_curvature_limited.result c.in-Ok.ensures.form within (c.is_curvature_limited.ensures false p c.in-Ok.ensures.form) in
    chosen (is_fine (design_of p) ≡ false) c.is_curvature_limited.result c.in-Ok.condensed c.then_some.result c.then_some.ensures class

pub returns-in-Err-TooWide-clause-class : goal.returns-in-Err-TooWide-clause-class
returns-in-Err-TooWide-clause-class c =
    let d = design_of c.args.design.now in
    let fine : is_fine d ≡ true = wide_class d c.in-Err-TooWide.field-0-0 ((c.in-Err-TooWide.ensures.wide c.in-Err-TooWide.field-0-0).0 (ap (λ (f : SizeFault). Err f) c.in-Err-TooWide.field-0-is)) in
    ((λ s. cc), (λ e. cc))
