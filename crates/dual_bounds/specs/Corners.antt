-- What a margin at the corners of the box gives at every state of it.
use Rattle.std.specs.Prelude.{ℕ, ◌^◌, ◌<◌, ◌≤◌, ℤ, pos, ◌+ℤ◌, ◌*ℤ◌, ◌≤ℤ◌, ◌<ℤ◌}
use Rattle.integer_algebra.specs.Sums.{square}
use Rattle.qp_model.specs.problem.Design.{Design, rows}
use Rattle.qp_model.specs.problem.Sound.{IsSound}
use Rattle.qp_model.specs.problem.Box.{IsGridState, corner}
use Rattle.qp_model.specs.problem.Cost.{cost, cost_scale}
use Rattle.qp_model.specs.problem.Residual.{residual, slack, residual_scale, IsFeasible}
use Rattle.qp_model.specs.problem.Policy.{Plans, IsPolicyFor, corner_denominator, corner_plan}
use Rattle.qp_model.specs.form.Form.{Form, IsFormFor}
use Rattle.qp_model.specs.form.Quantities.{input_floor}
use Rattle.qp_model.specs.bounds.Excess.{IsNearBest, excess_of}
use Rattle.qp_model.specs.bounds.Margin.{simulated, HasSlack, HasCost}
use Rattle.qp_model.specs.bounds.Choices.{multiplier_of}
use Rattle.qp_model.specs.declared.bounds.Margin.{Margin}

-- the corners' plans have in each row a slack of at least units / 2^16, and cost at most the margin's cost
pub record KeepsMargin (d : Design) (p : Plans) (m : Margin) : Type 0 where
  pub slacks : (c i : ℕ) → 1 ≤ c → c ≤ 2 ^ d.states → i < rows d → HasSlack (simulated d p) m.units c i
  pub costs : (c : ℕ) → 1 ≤ c → c ≤ 2 ^ d.states → HasCost (simulated d p) m.cost c

-- some plan has at the state xi a slack of at least units / 2^16 in each row, and costs at most the margin's cost
pub record HasMarginAt (d : Design) (m : Margin) (xi : ℕ → ℤ) : Type 0 where
  pub denominator : ℤ
  pub plan : ℕ → ℤ
  pub positive : pos 0 <ℤ denominator
  pub slacks : (i : ℕ) → i < rows d → (m.units *ℤ (pos (residual_scale d) *ℤ denominator)) ≤ℤ (pos (2 ^ 16) *ℤ slack d denominator xi plan i)
  pub cheap : cost d denominator xi plan ≤ℤ (m.cost *ℤ (pos (cost_scale d) *ℤ square denominator))

-- the corners' plans have in each row a slack of at least units / 2^16, and cost at most excess / 2^16 more than any plan from their corner
pub record KeepsExcess (d : Design) (p : Plans) (units excess : ℤ) : Type 0 where
  pub slacks : (c i : ℕ) → 1 ≤ c → c ≤ 2 ^ d.states → i < rows d → HasSlack (simulated d p) units c i
  pub excesses : (c : ℕ) → 1 ≤ c → c ≤ 2 ^ d.states → IsNearBest d (corner d c) (corner_denominator p c) (corner_plan p c) excess

-- some plan has at the state xi a slack of at least units / 2^16 in each row, and costs at most excess / 2^16 more than any plan
pub record HasExcessAt (d : Design) (units excess : ℤ) (xi : ℕ → ℤ) : Type 0 where
  pub denominator : ℤ
  pub plan : ℕ → ℤ
  pub positive : pos 0 <ℤ denominator
  pub slacks : (i : ℕ) → i < rows d → (units *ℤ (pos (residual_scale d) *ℤ denominator)) ≤ℤ (pos (2 ^ 16) *ℤ slack d denominator xi plan i)
  pub best : IsNearBest d xi denominator plan excess

-- the plan u over q exceeds no row by more than over / over_denominator
abbrev pub ExceedsNoMore : Design → (xi : ℕ → ℤ) → (q : ℤ) → (u : ℕ → ℤ) → (over over_denominator : ℤ) → Type 0
ExceedsNoMore d xi q u over over_denominator = (i : ℕ) → i < rows d →
    (over_denominator *ℤ residual d q xi u i) ≤ℤ (over *ℤ pos (residual_scale d) *ℤ q)

-- some plan is feasible and costs at most more / more_denominator more than the plan u over q
pub record HasRepair (d : Design) (xi : ℕ → ℤ) (q : ℤ) (u : ℕ → ℤ) (more more_denominator : ℤ) : Type 0 where
  pub denominator : ℤ
  pub plan : ℕ → ℤ
  pub positive : pos 0 <ℤ denominator
  pub feasible : IsFeasible d denominator xi plan
  pub cheap : (more_denominator *ℤ cost d denominator xi plan *ℤ square q) ≤ℤ
      ((more_denominator *ℤ cost d q xi u +ℤ more *ℤ pos (cost_scale d) *ℤ square q) *ℤ square denominator)

-- At every grid state of the box some plan has the margin of the corners' plans.
abbrev pub BoxLaw : Type 0
BoxLaw = (d : Design) (rho : ℕ) (p : Plans) (m : Margin) → IsSound d rho → IsPolicyFor d p → KeepsMargin d p m →
    (xi : ℕ → ℤ) → IsGridState d xi → HasMarginAt d m xi

-- And where the margin is one of slack, a plan there that exceeds each row by at most `over` has a feasible plan that costs at most R * over
-- more.
abbrev pub RepairLaw : Type 0
RepairLaw = (d : Design) (rho : ℕ) (p : Plans) (m : Margin) → IsSound d rho → IsPolicyFor d p → KeepsMargin d p m → pos 1 ≤ℤ m.units →
    (xi : ℕ → ℤ) → IsGridState d xi → (q : ℤ) (u : ℕ → ℤ) → pos 0 <ℤ q →
    (over over_denominator : ℤ) → pos 0 ≤ℤ over → pos 0 <ℤ over_denominator → ExceedsNoMore d xi q u over over_denominator →
    HasRepair d xi q u (pos (multiplier_of m) *ℤ over) over_denominator

-- What any reference plans show of a policy as its excess, its plans keep.
abbrev pub ExcessShownLaw : Type 0
ExcessShownLaw = (d : Design) (h : Form) (p r : Plans) (units : ℤ) → IsSound d (input_floor d) → IsFormFor d h → IsPolicyFor d p → IsPolicyFor d r →
    ((c i : ℕ) → 1 ≤ c → c ≤ 2 ^ d.states → i < rows d → HasSlack (simulated d p) units c i) → KeepsExcess d p units (pos (excess_of d h p r))

-- At every grid state of the box some plan has the slack of the corners' plans, and costs as little more than any other plan.
abbrev pub ExcessBoxLaw : Type 0
ExcessBoxLaw = (d : Design) (rho : ℕ) (p : Plans) (units excess : ℤ) → IsSound d rho → IsPolicyFor d p → KeepsExcess d p units excess →
    (xi : ℕ → ℤ) → IsGridState d xi → HasExcessAt d units excess xi

-- And where the slack is positive, a plan there that exceeds each row by at most `over`, which is at least a threshold over 2^16, has a feasible
-- plan that costs at most r * over more, if r is at least the excess over the sum of slack and threshold.
abbrev pub ThresholdLaw : Type 0
ThresholdLaw = (d : Design) (rho : ℕ) (p : Plans) (units excess : ℤ) (r threshold : ℕ) → IsSound d rho → IsPolicyFor d p → KeepsExcess d p units excess →
    pos 1 ≤ℤ units → excess ≤ℤ (pos r *ℤ (units +ℤ pos threshold)) →
    (xi : ℕ → ℤ) → IsGridState d xi → (q : ℤ) (u : ℕ → ℤ) → pos 0 <ℤ q →
    (over over_denominator : ℤ) → pos 0 ≤ℤ over → pos 0 <ℤ over_denominator → (pos threshold *ℤ over_denominator) ≤ℤ (over *ℤ pos (2 ^ 16)) →
    ExceedsNoMore d xi q u over over_denominator → HasRepair d xi q u (pos r *ℤ over) over_denominator
