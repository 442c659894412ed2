-- Both classes have a unit and a reach.
use Rattle.std.specs.Prelude.{ℕ, ◌+◌, ◌*◌, ◌^◌, ◌≤◌}
use Rattle.qp_model.specs.declared.design_parts.DesignParts.{DesignParts}
use Rattle.qp_model.specs.problem.Design.{entries}
use Rattle.qp_model.specs.problem.Parts.{design_of, IsDesign}
use Rattle.qp_model.specs.form.Quantities.{growth, cost_width, weight_sum, hessian_size}
use Rattle.scaled_run.specs.ScaledForm.{exact_unit}
use Rattle.scaled_run.specs.ScaledSizes.{scaled_reach}
use Rattle.scaled_condense.specs.Lists.{IsScale}

-- enclosures, where growth times the reach is within the limit
abbrev pub FineScaleLaw : Type 0
FineScaleLaw = (p : DesignParts) → IsDesign p → growth (design_of p) * scaled_reach (2 ^ 40) 3 (design_of p) ≤ 2 ^ 126 →
    IsScale p (2 ^ 40) (scaled_reach (2 ^ 40) 3 (design_of p))

-- exact numbers, where the quantity `hessian` is
abbrev pub ExactScaleLaw : Type 0
ExactScaleLaw = (p : DesignParts) → IsDesign p → hessian_size (design_of p) ≤ 2 ^ 126 →
    IsScale p (exact_unit (design_of p)) (scaled_reach (exact_unit (design_of p)) 0 (design_of p))

-- where all numbers of the condensed cost are within the limit, so are the products, with room for what is made of them
abbrev pub AreaLaw : Type 0
AreaLaw = (p : DesignParts) (reach : ℕ) → IsDesign p →
    entries (design_of p) * (entries (design_of p) + p.states + 1) * (2 * weight_sum (design_of p) * (cost_width (design_of p) * reach) ^ 2) ≤ 2 ^ 126 →
    4 * (weight_sum (design_of p) * (cost_width (design_of p) * reach) ^ 2) ≤ 2 ^ 126
