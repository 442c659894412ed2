-- What `split` does with what its first three files hold, and what it leaves in the store.
use Rattle.std.specs.Prelude.{◌≡◌, ◌≢◌, ℕ, ◌≤◌, ◌<◌, ℤ, Bool, List, length, get_or, Option, Some}
use Rattle.std.specs.List.{flat_map}
use Rattle.io_edge.specs.Faults.{Files}
use Rattle.qp_model.specs.problem.Policy.{Plans}
use Rattle.qp_model.specs.problem.Parts.{IsDesign, design_of}
use Rattle.qp_model.specs.declared.design_parts.DesignParts.{DesignParts}
use Rattle.qp_model.specs.bounds.Printed.{Printed}
use Rattle.bound_report.specs.Report.{report_text}
use Rattle.cell_split.specs.Cells.{cell_count, AreCutsFor, Splits}
use Rattle.cell_maker.specs.Controllers.declared.any_controller.AnyController.{AnyController}
use Rattle.cell_maker.specs.Made.{is_fast, AreCellsMade}
use Rattle.cell_file.specs.Text.{IsCellsText}
use Rattle.command_line.specs.Words.{word_of}
use Rattle.command_line.specs.Limit.{file_limit, cells_limit}
use Rattle.command_line.specs.Answers.{FileHolds}
use Rattle.command_line.specs.Deeds.{Deeds}
use Rattle.command_line.specs.Script.{Act, Script, ends, reads, Work, deeds_of_work}
use Rattle.command_line.specs.TwoTexts.{two_texts, two_work}
use Rattle.command_design_files.specs.Texts.{AskedRight}
use Rattle.command_files.specs.Texts.{CutsRight, CellPoliciesRight}
use Rattle.command_design_files.specs.Reading.{asked_kind}
use Rattle.command_files.specs.Reading.{cuts_kind, cell_policies_kind}
use Rattle.command_split.specs.Cells.{CellsCall, HaveCellBoxes, EachIsServed}

-- the texts of the reports of all bounds, one after the other
abbrev pub report_texts : List Printed → List ℕ
report_texts bounds = flat_map report_text bounds

-- ---- what it does: it reads a design of any version, cuts of its box and the policies of all cells, and writes the texts of what is made of them
-- the text of the controllers of all cells that have plans, and the reports of their bounds
pub record AreCellTexts (p : DesignParts) (fast : Bool) (cuts : List (List ℤ)) (policies : List (Option Plans)) (text report : List ℕ) : Type 0 where
  pub design : IsDesign p
  pub cut : AreCutsFor (design_of p) cuts
  pub cells : List AnyController
  pub bounds : List Printed
  pub made : AreCellsMade p fast cuts policies cells bounds
  pub is_text : IsCellsText text cells
  pub is_report : report ≡ report_texts bounds

abbrev pub split_act : DesignParts → (fast : Bool) → List (List ℤ) → List (Option Plans) → Act
split_act p fast cuts policies = two_texts (CellsCall p fast cuts policies) (λ words. AreCellTexts p fast cuts policies) 4 5

abbrev pub split_after_cuts : DesignParts → (fast : Bool) → List (List ℤ) → Script
split_after_cuts p fast cuts = reads 3 (cell_policies_kind (design_of p) (cell_count cuts)) (λ policies. ends (split_act p fast cuts policies))

abbrev pub split_after : DesignParts → (fast : Bool) → Script
split_after p fast = reads 2 (cuts_kind (design_of p)) (split_after_cuts p fast)

abbrev pub split_work : Work
split_work = two_work (reads 1 asked_kind (λ wanted. split_after wanted.design wanted.fast)) 4 5

-- its row of the table of commands
abbrev pub split_deeds : Deeds
split_deeds = deeds_of_work split_work

-- ---- what is written
-- two files hold a design, which asks for the accelerated machine or doesn't, and cuts of its box
pub record HoldsCutDesign (design cuts : Option (List ℕ)) (p : DesignParts) (fast : Bool) (lists : List (List ℤ)) : Type 0 where
  pub design_right : FileHolds file_limit (AskedRight (record { design = p; fast = fast })) design
  pub cuts_right : FileHolds file_limit (CutsRight (design_of p) lists) cuts

-- The controllers and their bounds are those of the cells of the design's box that have plans, one for each in their order: each is built of its cell's design, certified for it
-- and within its targets, by the machine that the design asks for: the accelerated one where its text is of version 3. The cells split the box, each controller's own box is its cell's, and each grid state of the design's box lies in one cell: it is served by one
-- controller, if the cell has plans, and by none, if not.
pub record AreSplitFrom (design cuts policies : Option (List ℕ)) (cells : List AnyController) (bounds : List Printed) : Type 0 where
  pub p : DesignParts
  pub fast : Bool
  pub lists : List (List ℤ)
  pub plans : List (Option Plans)
  pub inputs : HoldsCutDesign design cuts p fast lists
  pub policies_right : FileHolds file_limit (CellPoliciesRight (design_of p) (cell_count lists) plans) policies
  pub splits : Splits (design_of p) lists
  pub made : AreCellsMade p fast lists plans cells bounds
  pub machine : (i : ℕ) (c : AnyController) → i < length cells → is_fast (get_or cells i c) ≡ fast
  pub boxes : HaveCellBoxes p lists plans cells
  pub served : EachIsServed (design_of p) lists plans cells bounds

-- of what the names hold
abbrev pub AreSplitOfFiles : (words : List (List ℕ)) → Files → List AnyController → List Printed → Type 0
AreSplitOfFiles words files cells bounds = AreSplitFrom (files (word_of words 1)) (files (word_of words 2)) (files (word_of words 3)) cells bounds

-- The fourth name holds the text of the controllers, no longer than a file of cells may be, and the fifth the reports of their bounds, one after the other; every other name
-- holds what it held. They are those of the design, the cuts and the policies that the first three names held.
pub record IsSplitWritten (words : List (List ℕ)) (files new : Files) : Type 0 where
  pub cells : List AnyController
  pub bounds : List Printed
  pub made : AreSplitOfFiles words files cells bounds
  pub text : List ℕ
  pub is_text : IsCellsText text cells
  pub short : length text ≤ cells_limit
  pub cells_file : new (word_of words 4) ≡ Some text
  pub report_file : new (word_of words 5) ≡ Some (report_texts bounds)
  pub others : (q : List ℕ) → q ≢ word_of words 4 → q ≢ word_of words 5 → new q ≡ files q
