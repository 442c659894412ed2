-- How far a plan breaks the limits.
use Rattle.std.specs.Prelude.{ℕ, ◌+◌, ◌-◌, ◌*◌, ◌/◌, ◌%◌, ◌^◌, ◌<◌, ℤ, pos, ◌+ℤ◌, ◌-ℤ◌, ◌*ℤ◌, neg_ℤ, ◌≤ℤ◌, nat_lt, if◌then◌else◌}
use Rattle.integer_algebra.specs.Sums.{dot}
use Rattle.qp_model.specs.problem.Design.{Design, LimitRow, rows}
use Rattle.qp_model.specs.problem.Trajectory.{trajectory, lift}

-- the residuals of a plan over q are over this, times q
abbrev pub residual_scale : Design → ℕ
residual_scale d = d.limit_denominator * 2 ^ d.grid * d.plant_denominator ^ d.stages

-- how far a limit is broken at a stage
abbrev pub stage_residual : Design → ℤ → (xi u : ℕ → ℤ) → ℕ → LimitRow → ℤ
stage_residual d q xi u k r =
    lift d k *ℤ (dot d.states r.of_state (trajectory d q xi u k) +ℤ
    pos (2 ^ d.grid * d.plant_denominator ^ k) *ℤ dot d.inputs r.of_input (λ l. u (k * d.inputs + l)) -ℤ
    pos (2 ^ d.grid) *ℤ q *ℤ pos (d.plant_denominator ^ k) *ℤ r.bound)

-- how far a final limit is broken
abbrev pub final_residual : Design → ℤ → (xi u : ℕ → ℤ) → LimitRow → ℤ
final_residual d q xi u r =
    dot d.states r.of_state (trajectory d q xi u d.stages) -ℤ pos (2 ^ d.grid) *ℤ q *ℤ pos (d.plant_denominator ^ d.stages) *ℤ r.bound

-- the residual of row i, as a numerator over `residual_scale d` * q: the stage rows of stage 0, of stage 1 and so on, then the final rows
abbrev pub residual : Design → ℤ → (xi u : ℕ → ℤ) → ℕ → ℤ
residual d q xi u i =
    if nat_lt i (d.stages * d.stage_limits) then
    stage_residual d q xi u (i / d.stage_limits) (d.stage_limit (i % d.stage_limits))
    else final_residual d q xi u (d.final_limit (i - d.stages * d.stage_limits))

-- no limit is broken
abbrev pub IsFeasible : Design → ℤ → (xi u : ℕ → ℤ) → Type 0
IsFeasible d q xi u = (i : ℕ) → i < rows d → residual d q xi u i ≤ℤ pos 0

-- the slack of row i, as a numerator over `residual_scale d` * q
abbrev pub slack : Design → ℤ → (xi u : ℕ → ℤ) → ℕ → ℤ
slack d q xi u i = neg_ℤ (residual d q xi u i)
