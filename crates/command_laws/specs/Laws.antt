-- What is written is read back. The first run was done, and the program's clauses say what it left in the store; the second has the file that it wrote as its first, and grid
-- states of the design's box as its second.
use Rattle.std.specs.Prelude.{◌≡◌, ℕ, ◌<◌, List, length, Option, Some, IsSome}
use Rattle.io_edge.specs.Faults.{Files}
use Rattle.mat_int.specs.Matrix.{Matrix, row_of}
use Rattle.qp_model.specs.problem.Design.{Design}
use Rattle.qp_model.specs.problem.Parts.{design_of}
use Rattle.command_line.specs.Words.{word_of}
use Rattle.command_line.specs.declared.status.Status.{Status}
use Rattle.command_generate.specs.Generate.{IsGenerated}
use Rattle.command_solve.specs.Deeds.{solve_deeds}
use Rattle.command_make.specs.Lean.{IsLeanWritten}
use Rattle.command_make.specs.Fast.{IsFastGenerated, IsFastWritten}
use Rattle.command_split.specs.Splitting.Cells.{IsCell}
use Rattle.command_split.specs.Made.{cell_plans}
use Rattle.command_split.specs.Split.{IsSplitWritten}
use Rattle.command_serve.specs.Deeds.{serve_deeds}
use Rattle.command_laws.specs.Runs.{HasAnswered, HoldsGridStates, IsSolvedAsCertified, IsFastSolvedAsCertified, IsCovered, IsServedAsCertified}

-- of the controller under the name at this position, made for a design: this is said of each run over grid states of the design's box
abbrev pub WrittenSolveLaw : (first : ℕ) → Design → (words asked : List (List ℕ)) → (left : Files) → (Solved : Matrix → Status → (before now : Option (List ℕ)) → Type 0) → Type 0
WrittenSolveLaw first d words asked left Solved =
    (states : Matrix) (s : Status) (before now : Option (List ℕ)) →
    word_of asked 1 ≡ word_of words first → HoldsGridStates d (left (word_of asked 2)) states → HasAnswered solve_deeds asked (Some left) s before now →
    Solved states s before now

-- of the controller of `generate`, which is certified for its design
abbrev pub GenerateSolveLaw : Type 0
GenerateSolveLaw = (words asked : List (List ℕ)) (files left : Files) (made : IsGenerated words files left) →
    WrittenSolveLaw 3 (design_of made.made.p) words asked left (IsSolvedAsCertified asked left (design_of made.made.p) made.controller made.bounds)

-- a controller of the accelerated machine, which it makes of a design of version 3
abbrev pub FastGenerateSolveLaw : Type 0
FastGenerateSolveLaw = (words asked : List (List ℕ)) (files left : Files) (made : IsFastGenerated words files left) →
    WrittenSolveLaw 3 (design_of made.made.p) words asked left (IsFastSolvedAsCertified asked left (design_of made.made.p) made.controller made.bounds)

-- of the controller of `lean`
abbrev pub LeanSolveLaw : Type 0
LeanSolveLaw = (words asked : List (List ℕ)) (files left : Files) (made : IsLeanWritten words files left) →
    WrittenSolveLaw 4 (design_of made.made.p) words asked left (IsSolvedAsCertified asked left (design_of made.made.p) made.controller made.bounds)

-- of the accelerated machine, likewise
abbrev pub FastSolveLaw : Type 0
FastSolveLaw = (words asked : List (List ℕ)) (files left : Files) (made : IsFastWritten words files left) →
    WrittenSolveLaw 4 (design_of made.made.p) words asked left (IsFastSolvedAsCertified asked left (design_of made.made.p) made.controller made.bounds)

-- of the cells of `split`, at states of cells that have plans
abbrev pub CoveredServeLaw : Type 0
CoveredServeLaw =
    (words asked : List (List ℕ)) (files left : Files) (made : IsSplitWritten words files left) (states : Matrix) (s : Status) (before now : Option (List ℕ)) →
    word_of asked 1 ≡ word_of words 4 → HoldsGridStates (design_of made.made.p) (left (word_of asked 2)) states →
    ((e : ℕ) → e < length states.rows → IsCovered (design_of made.made.p) made.made.lists made.made.plans (row_of states e)) → HasAnswered serve_deeds asked (Some left) s before now →
    IsServedAsCertified asked left (design_of made.made.p) made.cells made.bounds states s before now

-- and at all, where every cell has plans
abbrev pub WholeServeLaw : Type 0
WholeServeLaw =
    (words asked : List (List ℕ)) (files left : Files) (made : IsSplitWritten words files left) (states : Matrix) (s : Status) (before now : Option (List ℕ)) →
    ((k : ℕ) → IsCell made.made.lists k → IsSome (cell_plans made.made.plans k)) →
    word_of asked 1 ≡ word_of words 4 → HoldsGridStates (design_of made.made.p) (left (word_of asked 2)) states → HasAnswered serve_deeds asked (Some left) s before now →
    IsServedAsCertified asked left (design_of made.made.p) made.cells made.bounds states s before now

abbrev pub SplitServeLaw : Type 0
SplitServeLaw = CoveredServeLaw × WholeServeLaw
