-- The steps of a run of the accelerated machine. After k of them k (k + 3) stands where the plain machine's bounds have its steps, and each step exponent is
-- greater by two.
use Rattle.std.specs.Prelude.{ℕ, ◌+◌, ◌*◌, ◌^◌, ◌<◌, ◌≤◌, max}
use Rattle.qp_model.specs.bounds.Choices.{lean_multiplier, step_count}

-- what stands for the steps
abbrev pub quarter_steps : ℕ → ℕ
quarter_steps k = k * (k + 3)

-- k is the least number from 1 with which that is at least n
pub record IsLeastQuarter (n k : ℕ) : Type 0 where
  pub some : 1 ≤ k
  pub enough : n ≤ quarter_steps k
  pub least : (j : ℕ) → 1 ≤ j → j < k → quarter_steps j < n

-- K: so that 2^(s + 3) R / (K (K + 3)) is at most the steps' share of the violation's target, in units of 2^-40
abbrev pub IsFastStepCount : (s r step_target k : ℕ) → Type 0
IsFastStepCount s r step_target = IsLeastQuarter (step_count (s + 2) r step_target)

-- `multiplier` of a controller of it that is made leanly: with it 2^(s + 43) R is below the limit for each step exponent
abbrev pub fast_multiplier_size : (units excess share : ℕ) → ℕ
fast_multiplier_size units excess share = max excess (2 ^ 84 * lean_multiplier units excess share)
