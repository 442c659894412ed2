-- What the test of the rows answers.
use Rattle.std.specs.Prelude.{◌≡◌, ℕ, ◌+◌, ◌^◌, ◌<◌, ◌≤◌, ℤ, pos, ◌*ℤ◌, ◌≤ℤ◌, ◌<ℤ◌}
use Rattle.qp_model.specs.machine.Controller.{Numbers}
use Rattle.settle_check.specs.Still.{Box, fraction_unit, still_sum}
use Rattle.settle_check.specs.StillSize.{still_size}
use Rattle.settle_check.specs.declared.fault.SettleFault.{SettleFault}
use Rattle.settle_check.specs.declared.fault.SettleFault.TheVariants.{Memory, TooWide, Moves, Unsettled, NoReturn}

-- the multiplier of row i doesn't move, and it is computed within 2^126
pub record RowIsStill (c : Numbers) (z : Box) (i : ℕ) : Type 0 where
  pub size : still_size c z i ≤ 2 ^ 126
  pub still : still_sum c z i <ℤ (pos (fraction_unit c) *ℤ pos (fraction_unit c))

-- it may move
pub record RowMoves (c : Numbers) (z : Box) (i row : ℕ) (left right : ℤ) : Type 0 where
  pub place : row ≡ i + 1
  pub size : still_size c z i ≤ 2 ^ 126
  pub number : left ≡ still_sum c z i
  pub limit : right ≡ pos (fraction_unit c) *ℤ pos (fraction_unit c)
  pub moves : right ≤ℤ left

-- the fault of row i
abbrev pub IsRowFault : Numbers → Box → ℕ → SettleFault → Type 0
IsRowFault c z i Memory = ⊥
IsRowFault c z i TooWide = 2 ^ 126 < still_size c z i
IsRowFault c z i (Moves row left right) = RowMoves c z i row left right
IsRowFault c z i (Unsettled turn coordinate bound) = ⊥
IsRowFault c z i (NoReturn turn coordinate bound) = ⊥

-- of the first row that has one
pub record IsStillFault (c : Numbers) (z : Box) (fault : SettleFault) : Type 0 where
  pub index : ℕ
  pub inside : index < c.rows
  pub before : (i : ℕ) → i < index → RowIsStill c z i
  pub here : IsRowFault c z index fault
