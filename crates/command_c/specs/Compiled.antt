-- What `c` does with what its first file holds, and what it leaves in the store.
use Rattle.std.specs.Prelude.{◌≡◌, ◌≢◌, ◌⊎◌, ℕ, List, Option, Some}
use Rattle.io_edge.specs.Faults.{Files}
use Rattle.c_language.specs.Syntax.{CProgram}
use Rattle.overflow_check.specs.declared.machine.Machine.{Machine}
use Rattle.overflow_check.specs.declared.machine.Machine.TheVariants as Machines
use Rattle.c_program.specs.InParts.{HasProgram, written_program}
use Rattle.c_language.specs.Text.{program_text, header_text}
use Rattle.c_program.specs.Laws.{IsWritten}
use Rattle.controller_file.specs.AnyText.{any_numbers}
use Rattle.controller_file.specs.declared.any_controller.AnyController.{AnyController}
use Rattle.controller_file.specs.declared.any_controller.AnyController.TheVariants.{Plain, Fast}
use Rattle.command_line.specs.Words.{word_of}
use Rattle.command_line.specs.Limit.{file_limit}
use Rattle.command_line.specs.Answers.{FileHolds}
use Rattle.command_line.specs.Deeds.{Deeds}
use Rattle.command_line.specs.Script.{Act, ends, reads, Work, deeds_of_work}
use Rattle.command_line.specs.TwoTexts.{two_texts, two_work}
use Rattle.command_files.specs.Texts.{AnyControllerRight}
use Rattle.command_files.specs.Reading.{any_controller_kind}
use Rattle.command_line.specs.declared.status.Status.{Status}
use Rattle.command_line.specs.declared.status.Status.TheVariants.{Done, TooWideForC}

-- ---- the program of a controller of either machine
abbrev pub any_machine : AnyController → Machine
any_machine (Plain c) = Machines.Plain
any_machine (Fast c) = Machines.Accelerated

-- it has one: its sums fit 64 bits, whole or in two parts
abbrev pub HasAnyProgram : AnyController → Type 0
HasAnyProgram k = HasProgram (any_machine k) (any_numbers k)

abbrev pub any_program : AnyController → CProgram
any_program k = written_program (any_machine k) (any_numbers k)

-- Run from any grid state of the box, C defines each statement of it; it answers 0, and puts out the numerators of the averaged plan, as `solve` prints them, and of these the
-- averaged first inputs. From any other state it answers the first coordinate outside the box, and puts out nothing.
abbrev pub IsAnyProgram : AnyController → Type 0
IsAnyProgram k = IsWritten (any_machine k) (any_numbers k)

-- what a controller calls for: it is too wide, or both texts are written
abbrev pub ProgramCalls : AnyController → Status → Type 0
ProgramCalls k s = (¬ HasAnyProgram k × (s ≡ TooWideForC (any_numbers k).width)) ⊎ (HasAnyProgram k × (s ≡ Done))

-- ---- what it does: it reads a controller, and writes the texts of its program
-- the texts of a controller's program with this name
pub record AreProgramTexts (name : List ℕ) (k : AnyController) (source header : List ℕ) : Type 0 where
  pub has_program : HasAnyProgram k
  pub is_source : source ≡ program_text name (any_program k)
  pub is_header : header ≡ header_text name (any_numbers k) (any_program k)

abbrev pub compile_act : AnyController → Act
compile_act k = two_texts (ProgramCalls k) (λ words. AreProgramTexts (word_of words 2) k) 3 4

abbrev pub compile_work : Work
compile_work = two_work (reads 1 any_controller_kind (λ k. ends (compile_act k))) 3 4

-- its row of the table of commands
abbrev pub compile_deeds : Deeds
compile_deeds = deeds_of_work compile_work

-- ---- what is written
-- the source and the header of the program, with this name, of the controller, of any version, that a file holds
pub record AreCompiledFrom (controller : Option (List ℕ)) (name source header : List ℕ) : Type 0 where
  pub read : AnyController
  pub right : FileHolds file_limit (AnyControllerRight read) controller
  pub program : IsAnyProgram read
  pub is_source : source ≡ program_text name (any_program read)
  pub is_header : header ≡ header_text name (any_numbers read) (any_program read)

-- the third name holds the source and the fourth the header, of the controller that the first held; every other name holds what it held
pub record IsCompiled (words : List (List ℕ)) (files new : Files) : Type 0 where
  pub source : List ℕ
  pub header : List ℕ
  pub texts : AreCompiledFrom (files (word_of words 1)) (word_of words 2) source header
  pub source_file : new (word_of words 3) ≡ Some source
  pub header_file : new (word_of words 4) ≡ Some header
  pub others : (q : List ℕ) → q ≢ word_of words 3 → q ≢ word_of words 4 → new q ≡ files q
