-- What the choice among matrices answers.
use Rattle.std.specs.Prelude.{◌≡◌, ◌⊎◌, ℕ, ◌≤◌, ℤ, Option, Some, None, Result, Ok, Err, unwrap_or}
use Rattle.qp_model.specs.bounds.Least.{IsLeast}
use Rattle.hessian_check.specs.Curvature.{IsChosen}
use Rattle.integer_algebra.specs.Matrices.{IsDominant}
use Rattle.hessian_check.specs.declared.fault.CurvatureFault.{CurvatureFault}
use Rattle.hessian_check.specs.declared.fault.CurvatureFault.TheVariants.{Memory, TooWide, NoStep}
use Rattle.hessian_check.specs.declared.fault.StepExponents.{StepExponents}

-- s1 is the least number up to `squares` whose matrix is dominant, or `squares`
abbrev pub IsEither : ℕ → (ℕ → ℕ → ℕ → ℤ) → Option ℕ → ℕ → Type 0
IsEither n m squares s1 =
    ((s1 ≤ unwrap_or squares 40) × IsLeast (λ s. IsDominant n (m s)) s1) ⊎
    (((s : ℕ) → s ≤ unwrap_or squares 40 → ¬ IsDominant n (m s)) × (squares ≡ Some s1))

-- two numbers; or no number up to 40 passes either test; or memory is wanting
abbrev pub IsOutcome : ℕ → (ℕ → ℕ → ℕ → ℤ) → Option ℕ → Result StepExponents CurvatureFault → Type 0
IsOutcome n m squares (Ok e) = IsEither n m squares e.s1 × IsChosen n m e.s1 e.s
IsOutcome n m squares (Err Memory) = Unit {0}
IsOutcome n m squares (Err (TooWide q)) = ⊥
IsOutcome n m squares (Err NoStep) = ((s : ℕ) → s ≤ 40 → ¬ IsDominant n (m s)) × (squares ≡ None)
