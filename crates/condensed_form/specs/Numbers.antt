-- The condensed cost and the condensed limits as matrices and lists.
use Rattle.std.specs.Prelude.{◌≡◌, ℕ, ◌^◌, ℤ, pos, ◌+ℤ◌, ◌*ℤ◌, neg_ℤ, List, replicate}
use Rattle.integer_algebra.specs.Sums.{none}
use Rattle.mat_int.specs.Matrix.{Matrix, zero_matrix}
use Rattle.qp_model.specs.problem.Design.{Design, entries, rows}
use Rattle.qp_model.specs.problem.Runs.{unit, row_at, bound_at, Holds}
use Rattle.condensed_form.specs.Costs.{plan_cost, state_cost, target_of, weighed, own_cost}
use Rattle.condensed_form.specs.Lists.{HoldsMatrix}

-- the hessian, and the parts of the cost that are linear in the plan
pub record AreCostNumbers (d : Design) (hess lin : Matrix) (off : List ℤ) : Type 0 where
  pub hessian : HoldsMatrix hess (entries d) (entries d) (entries d) (λ i j. weighed d i (plan_cost d j) +ℤ own_cost d i j)
  pub linear : HoldsMatrix lin (entries d) d.states d.states (λ j i. weighed d j (state_cost d i))
  pub constant : Holds off (entries d) (λ j. weighed d j (λ c. neg_ℤ (pos (d.plant_denominator ^ d.stages)) *ℤ target_of d c))

-- what the limit rows have of a plan and of a state, and their bounds
pub record AreLimitNumbers (d : Design) (g e : Matrix) (b : List ℤ) : Type 0 where
  pub plan : HoldsMatrix g (rows d) (entries d) (entries d) (λ i j. row_at d none (unit j) i)
  pub state : HoldsMatrix e (rows d) d.states d.states (λ i j. row_at d (unit j) none i)
  pub bound : Holds b (rows d) (λ i. pos (d.plant_denominator ^ d.stages) *ℤ bound_at d i)

-- the radii of exact numbers
pub record AreNoRadii (entries states rows : ℕ) (hess lin : Matrix) (off : List ℤ) (g e : Matrix) : Type 0 where
  pub hessian : hess ≡ zero_matrix entries entries
  pub linear : lin ≡ zero_matrix entries states
  pub constant : off ≡ replicate entries (pos 0)
  pub plan : g ≡ zero_matrix rows entries
  pub state : e ≡ zero_matrix rows states
