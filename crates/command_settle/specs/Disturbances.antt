-- The range of the disturbances, which the fourth file holds where there are any.
use Rattle.std.specs.Prelude.{◌≡◌, ℕ, Bool, true, false, List, Option}
use Rattle.mat_int.specs.Matrix.{Matrix, zero_matrix}
use Rattle.command_line.specs.Limit.{file_limit}
use Rattle.command_line.specs.Answers.{FileHolds}
use Rattle.command_loop.specs.CommandFiles.Texts.{RangeRight}

-- none of n coordinates
abbrev pub no_disturbances : ℕ → Matrix
no_disturbances n = zero_matrix 2 n

-- the file holds them where there are any, and else there are none
abbrev pub HoldsDisturbances : (disturbed : Bool) → (n : ℕ) → Option (List ℕ) → (range : Matrix) → Type 0
HoldsDisturbances true n content range = FileHolds file_limit (RangeRight n range) content
HoldsDisturbances false n content range = range ≡ no_disturbances n
