-- The least number with a property.
use Rattle.std.specs.Prelude.{ℕ, zero, suc, ◌<◌, Option, Some, None, Bool, if◌then◌else◌}

-- s is the least number at which p holds
pub record IsLeast (p : ℕ → Type 0) (s : ℕ) : Type 0 where
  pub holds : p s
  pub least : (k : ℕ) → k < s → ¬ p k

-- the least number below `end` at which p holds, or None
abbrev pub IsLeastBelow : ℕ → (ℕ → Type 0) → Option ℕ → Type 0
IsLeastBelow end p (Some s) = (s < end) × IsLeast p s
IsLeastBelow end p None = (k : ℕ) → k < end → ¬ p k

-- the least number up to `end` at which a test holds, or `end` where there is none
abbrev pub least_up_to : ℕ → (ℕ → Bool) → ℕ
least_up_to zero p = 0
least_up_to (suc n) p = if p (least_up_to n p) then least_up_to n p else suc n
