-- A plan for each corner of the box.
use Rattle.std.specs.Prelude.{◌≡◌, ℕ, ◌^◌, ◌-◌, ◌≤◌, ℤ, pos, ◌≤ℤ◌, List, length, All, unsigned_abs}
use Rattle.integer_algebra.specs.Sums.{at}
use Rattle.mat_int.specs.Matrix.{Matrix, entry_of}
use Rattle.qp_model.specs.problem.Design.{Design, entries}
use Rattle.qp_model.specs.declared.policy.Policy.{Policy}

-- a policy as its numbers: for each corner what its plan is over, and the plan's numerators
pub record Plans : Type 0 where
  pub denominators : List ℤ
  pub numerators : Matrix

abbrev pub plans_of : Policy → Plans
plans_of policy = record { denominators = policy.dens.items; numerators = policy.plans }

-- 1 .. 2^40
pub record IsPlanDenominator (z : ℤ) : Type 0 where
  pub low : pos 1 ≤ℤ z
  pub high : z ≤ℤ pos (2 ^ 40)

-- below 2^63 in absolute value
abbrev pub IsPlanNumerator : ℤ → Type 0
IsPlanNumerator z = unsigned_abs z ≤ 2 ^ 63 - 1

-- plans for this design's sizes: one for each corner
pub record IsPolicyFor (d : Design) (plans : Plans) : Type 0 where
  pub count : length plans.denominators ≡ 2 ^ d.states
  pub denominators : All IsPlanDenominator plans.denominators
  pub rows : length plans.numerators.rows ≡ 2 ^ d.states
  pub cols : plans.numerators.cols ≡ entries d
  pub regular : All (λ row. length row ≡ entries d) plans.numerators.rows
  pub numerators : All (All IsPlanNumerator) plans.numerators.rows

-- ---- the plan of a corner, which is counted from 1
-- what it is over
abbrev pub corner_denominator : Plans → ℕ → ℤ
corner_denominator p c = at p.denominators (c - 1)

abbrev pub corner_plan : Plans → ℕ → ℕ → ℤ
corner_plan p c = entry_of p.numerators (c - 1)
