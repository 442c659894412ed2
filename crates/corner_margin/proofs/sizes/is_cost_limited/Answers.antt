use Rattle.std.proofs.Common.{◌≡◌, false, true}
use Rattle.qp_model.specs.problem.Parts.{design_of}
use Rattle.qp_model.specs.form.Quantities.{weight_sum}
use Rattle.qp_model.proofs.SizeFacts.{side_under, some_weight}
use Rattle.corner_margin.proofs.sizes.is_cost_limited.Goals as goal

pub returns-in_default : goal.returns-in_default
returns-in_default c = (
  (λ t. absurd (apart t)),
  (λ h. absurd (c.in_default.ensures (rw c.cost_width.ensures (side_under (weight_sum (design_of c.args.parts.now)) _ _ (some_weight c.args.parts.now c.requires) h)))),
)
  where
    apart : false ≡ true → ⊥
    apart t = cc
