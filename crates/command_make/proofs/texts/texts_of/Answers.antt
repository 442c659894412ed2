use Rattle.std.proofs.Common.{◌≡◌, ◌∙◌, ap}
use Rattle.qp_model.specs.declared.design_parts.DesignParts.{DesignParts}
use Rattle.command_make.specs.Stay.{no_shifts}
use Rattle.command_make.proofs.texts.texts_of.Goals as goal

pub returns-in-None : goal.returns-in-None
returns-in-None c = rw c.in-None.is c.free_texts.ensures

pub returns-in-Some-range : goal.returns-in-Some-range
returns-in-Some-range c = rw (c.in-Some.is, c.in-Some-range.is) c.faced_texts.ensures

-- without a range there are no shifts
pub returns-in_ok-none-in-None-range : goal.returns-in_ok-none-in-None-range
returns-in_ok-none-in-None-range c =
    let none : c.in_ok-none-in-None-range.none ≡ no_shifts c.args.inputs.now.design.states =
    c.in_ok-none-in-None-range.ensures ∙ ap (λ (p : DesignParts). no_shifts p.states) c.parts.ensures.value in
    rw (c.in-Some.is, c.in-None-range.is) (rw none at c.faced_texts-in-None-range.ensures)
