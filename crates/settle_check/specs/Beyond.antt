-- Whether boxes lie in others turn by turn, or the first end of a coordinate that doesn't.
use Rattle.std.specs.Prelude.{◌≡◌, ◌⊎◌, ℕ, ◌+◌, ◌<◌, ◌≤◌, ℤ, ◌≤ℤ◌, ◌<ℤ◌, if◌then◌else◌, nat_lt}
use Rattle.settle_check.specs.Still.{Box, IsPartOf}
use Rattle.settle_check.specs.Settling.{Certificate}

-- what a loop is to lie in at each turn up to a last one: the box where no multiplier moves, and at last the box of rest
abbrev pub goal_at : Certificate → (turns : ℕ) → ℕ → Box
goal_at s turns t = if nat_lt t turns then s.still else s.rest

-- an end of coordinate i lies beyond the goal: the upper one, or else the lower
abbrev pub GoesBeyond : (goal box : Box) → (i : ℕ) → ℤ → Type 0
GoesBeyond goal box i bound =
    ((bound ≡ box.high i) × (goal.high i <ℤ bound)) ⊎ ((box.high i ≤ℤ goal.high i) × (bound ≡ box.low i) × (bound <ℤ goal.low i))

abbrev pub IsEndWithin : (goal box : Box) → ℕ → Type 0
IsEndWithin goal box i = (goal.low i ≤ℤ box.low i) × (box.high i ≤ℤ goal.high i)

-- the first coordinate of which an end does, from 1
pub record IsFirstBeyond (n : ℕ) (goal box : Box) (coordinate : ℕ) (bound : ℤ) : Type 0 where
  pub index : ℕ
  pub inside : index < n
  pub place : coordinate ≡ index + 1
  pub before : (i : ℕ) → i < index → IsEndWithin goal box i
  pub here : GoesBeyond goal box index bound

-- at the first turn at which there is one
pub record IsFirstTurnBeyond (n turns : ℕ) (goals boxes : ℕ → Box) (turn coordinate : ℕ) (bound : ℤ) : Type 0 where
  pub reached : turn ≤ turns
  pub before : (t : ℕ) → t < turn → IsPartOf n (goals t) (boxes t)
  pub here : IsFirstBeyond n (goals turn) (boxes turn) coordinate bound
