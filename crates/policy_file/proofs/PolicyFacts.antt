-- A policy's text: its plans are heads and rows, and a design's are few.
use Rattle.std.proofs.Common.{◌≡◌, ◌⊎◌, ℕ, ◌*◌, ◌≤◌, List, arith, inl, inr, Bool, true, false, ◌==◌, if◌then◌else◌}
use Rattle.std.proofs.Math.Nat.{mul-le-mul_right}
use Rattle.number_text.specs.declared.text_fault.TextFault.{TextFault}
use Rattle.number_text.specs.declared.text_fault.TextFault.TheVariants.{Memory}
use Rattle.qp_model.specs.problem.Limits.{last_version, most_states}
use Rattle.qp_model.specs.problem.Parts.{IsDesign}
use Rattle.qp_model.specs.declared.design_parts.DesignParts.{DesignParts}
use Rattle.qp_model.specs.problem.Design.{Design, entries}
use Rattle.qp_model.specs.problem.Policy.{Plans}
use Rattle.policy_file.specs.HeadedText.{IsHeadedText, IsHeadedFault}
use Rattle.policy_file.specs.PolicyText.{policy_rule, ArePlans, IsPlansFault}

-- denominators and numerators that were read
pub plans_read : (text : List ℕ) (d : Design) (number : ℕ) (p : Plans) → IsHeadedText policy_rule text (entries d) number p.denominators p.numerators → ArePlans text d number p
plans_read text d number p h = record { records = h.records; count = h.count; rows = h.rows; cols = h.cols; each = h.each }

-- and the fault of a text that has none
pub plans_fault : (text : List ℕ) (d : Design) (number : ℕ) (fault : TextFault) → (fault ≡ Memory) ⊎ IsHeadedFault policy_rule text (entries d) number fault → (fault ≡ Memory) ⊎ IsPlansFault text d number fault
plans_fault text d number fault (inl memory) = inl memory
plans_fault text d number fault (inr (inl f)) = inr (inl f)
plans_fault text d number fault (inr (inr f)) = inr (inr (record { each = f.each; here = f.here; told = f.told }))

-- ---- sizes of a design's plans
most_of : (b : Bool) (m n : ℕ) → m ≤ n → (if b then m else n) ≤ n
most_of true m n l = l
most_of false m n l = omega arith

pub states_small : (p : DesignParts) → IsDesign p → p.states ≤ most_states last_version
states_small p d = omega (arith, d.states, most_of (p.version == 1) 4 6 (omega arith))

pub plan_small : (p : DesignParts) → IsDesign p → p.stages * p.inputs ≤ 90
plan_small p d =
    let stages : p.stages ≤ 30 = omega (arith, d.stages, most_of (p.version == 1) 20 30 (omega arith)) in
    omega (arith, d.inputs, mul-le-mul_right p.inputs stages)
