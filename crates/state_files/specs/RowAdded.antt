-- A matrix with one more row, of the numbers of a record.
use Rattle.std.specs.Prelude.{◌≡◌, ℕ, ℤ, List, [], ◌∷◌, ◌++◌}
use Rattle.mat_int.specs.Matrix.{Matrix}
use Rattle.policy_file.specs.Records.{RecordRule, HoldsNumbers}

pub record HasRowMore (rule : RecordRule) (fields : List (List ℕ)) (m new : Matrix) : Type 0 where
  pub numbers : List ℤ
  pub rows : new ≡ record m { rows = m.rows ++ numbers ∷ [] }
  pub holds : HoldsNumbers rule m.cols fields numbers
