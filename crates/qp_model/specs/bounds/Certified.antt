-- What a controller is certified for: the promise of the whole program. It speaks of the plant's trajectories, costs and limits, of all plans over
-- any denominator, and of the run of the machine; of why its method works it says nothing.
use Rattle.std.specs.Prelude.{◌≡◌, ℕ, ◌^◌, ◌<◌, ℤ, pos, ◌+ℤ◌, ◌*ℤ◌, ◌≤ℤ◌, ◌<ℤ◌, List, length}
use Rattle.integer_algebra.specs.Sums.{at, square}
use Rattle.qp_model.specs.problem.Design.{Design, rows}
use Rattle.qp_model.specs.problem.Cost.{cost, cost_scale}
use Rattle.qp_model.specs.problem.Residual.{residual, residual_scale, IsFeasible}
use Rattle.qp_model.specs.problem.Box.{IsGridState}
use Rattle.qp_model.specs.machine.Controller.{Numbers}
use Rattle.qp_model.specs.bounds.Printed.{Printed}
use Rattle.qp_model.specs.machine.Machine.{average_denominator, averaged_plan}
use Rattle.qp_model.specs.machine.ValuesMet.{RunFits}

-- at the state xi the plan u over q exceeds row i by at most excess / 2^40
abbrev pub ExceedsAtMost : Design → (xi : ℕ → ℤ) → (q : ℤ) → (u : ℕ → ℤ) → ℕ → ℤ → Type 0
ExceedsAtMost d xi q u i excess = (pos (2 ^ 40) *ℤ residual d q xi u i) ≤ℤ (excess *ℤ pos (residual_scale d) *ℤ q)

-- the plan u over q costs at most more / 2^40 more than the plan t over r
abbrev pub CostsAtMost : Design → (xi : ℕ → ℤ) → (q : ℤ) → (u : ℕ → ℤ) → (r : ℤ) → (t : ℕ → ℤ) → ℤ → Type 0
CostsAtMost d xi q u r t more =
    (pos (2 ^ 40) *ℤ cost d q xi u *ℤ square r) ≤ℤ
    ((pos (2 ^ 40) *ℤ cost d r xi t +ℤ more *ℤ pos (cost_scale d) *ℤ square r) *ℤ square q)

-- some plan is feasible and costs at most more / 2^40 more than the plan u over q
pub record HasFeasible (d : Design) (xi : ℕ → ℤ) (q : ℤ) (u : ℕ → ℤ) (more : ℤ) : Type 0 where
  pub denominator : ℤ
  pub plan : ℕ → ℤ
  pub positive : pos 0 <ℤ denominator
  pub feasible : IsFeasible d denominator xi plan
  pub cheap : CostsAtMost d xi denominator plan q u more

-- ---- what a plan u over q keeps at the state xi
-- it exceeds each row i by at most (excess i) / 2^40
abbrev pub ExceedsNoRowBy : Design → (xi : ℕ → ℤ) → (q : ℤ) → (u : ℕ → ℤ) → (excess : ℕ → ℤ) → Type 0
ExceedsNoRowBy d xi q u excess = (i : ℕ) → i < rows d → ExceedsAtMost d xi q u i (excess i)

-- it costs at most more / 2^40 more than any feasible plan
abbrev pub CostsNoMoreThanFeasible : Design → (xi : ℕ → ℤ) → (q : ℤ) → (u : ℕ → ℤ) → (more : ℤ) → Type 0
CostsNoMoreThanFeasible d xi q u more = (r : ℤ) (t : ℕ → ℤ) → pos 0 <ℤ r → IsFeasible d r xi t → CostsAtMost d xi q u r t more

-- the printed violation of each row and that of all, the gap and the undercut hold of it
pub record KeepsBounds (d : Design) (b : Printed) (xi : ℕ → ℤ) (q : ℤ) (u : ℕ → ℤ) : Type 0 where
  pub rows : ExceedsNoRowBy d xi q u (at b.row_violations)
  pub violation : ExceedsNoRowBy d xi q u (λ i. b.violation)
  pub costs : CostsNoMoreThanFeasible d xi q u b.gap
  pub repair : HasFeasible d xi q u b.undercut

-- the run from a state: each value fits the printed width, the steps are the printed ones, and the averaged plan keeps the printed bounds
pub record IsCertifiedAt (d : Design) (c : Numbers) (b : Printed) (xi : List ℤ) : Type 0 where
  pub values : RunFits b.width c xi
  pub steps : c.steps ≡ b.steps
  pub plan : KeepsBounds d b (at xi) (pos (average_denominator c)) (at (averaged_plan c xi))

-- at every grid state of the box
abbrev pub IsCertified : Design → Numbers → Printed → Type 0
IsCertified d c b = (xi : List ℤ) → length xi ≡ d.states → IsGridState d (at xi) → IsCertifiedAt d c b xi
