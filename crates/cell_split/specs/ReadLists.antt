-- Lists of cuts that were read one after the other.
use Rattle.std.specs.Prelude.{◌≡◌, ℕ, ◌<◌, ◌≤◌, ℤ, List, length}
use Rattle.qp_model.specs.problem.Design.{Design}
use Rattle.cell_split.specs.Cells.{cuts_of}
use Rattle.cell_split.specs.CutsText.{HoldsCoordinate}

-- the records that the coordinates ask for hold these lists, and there are no more of them
pub record AreCutsRead (d : Design) (rows : List (List (List ℕ))) (lists : List (List ℤ)) : Type 0 where
  pub asked : length lists ≤ d.states
  pub inside : length lists ≤ length rows
  pub whole : length lists < d.states → length lists ≡ length rows
  pub each : (i : ℕ) → i < length lists → HoldsCoordinate d rows i (cuts_of lists i)
