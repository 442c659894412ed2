-- What `c` does by its script, and what it leaves.
use Rattle.std.proofs.Common.{◌≡◌, inl, inr, ℕ, List, Option, Some, None, refl, ap, ◌∙◌, arith}
use Rattle.std.specs.Prelude.{IfSome, IsSomeAnd}
use Rattle.io_edge.specs.Faults.{Files}
use Rattle.qp_model.specs.machine.Controller.{Numbers}
use Rattle.overflow_check.specs.declared.machine.Machine.{Machine}
use Rattle.overflow_check.specs.declared.machine.Machine.TheVariants as Machines
use Rattle.c_program.specs.InParts.{written_program}
use Rattle.c_language.specs.Text.{header_text}
use Rattle.c_program.specs.Laws.{WrittenProgramLaw}
use Rattle.c_program.proofs.ProgramLaw.{program_law}
use Rattle.c_program.proofs.FastProgramLaw.{fast_program_law}
use Rattle.c_program.proofs.PartedLaw.{parted_program_law, written_program_law}
use Rattle.controller_file.specs.AnyText.{any_numbers, IsAnyControllerText}
use Rattle.controller_file.specs.declared.any_controller.AnyController.{AnyController}
use Rattle.controller_file.specs.declared.any_controller.AnyController.TheVariants.{Plain, Fast}
use Rattle.command_line.specs.Words.{word_of}
use Rattle.command_line.specs.Does.{IsTelling}
use Rattle.command_line.specs.Script.{ends, leaves_at, leaves_of}
use Rattle.command_line.specs.TwoTexts.{BothStand, Two}
use Rattle.command_line.proofs.Doing.{IsRefusal, done_telling, sort_of, plain_refusal}
use Rattle.command_line.proofs.Gathering.{whole}
use Rattle.command_line.proofs.Following.{IsSoundWork, left_told}
use Rattle.command_line.proofs.TwoTexts.{some_weaker}
use Rattle.command_line.specs.declared.status.Status.{Status}
use Rattle.command_line.specs.declared.status.Status.TheVariants.{Done, TooWideForC}
use Rattle.command_files.proofs.Stopping.{controllers_refused}
use Rattle.command_c.specs.Compiled.{any_machine, HasAnyProgram, any_program, ProgramCalls, IsAnyProgram, AreProgramTexts, compile_act, compile_work, IsCompiled}

-- ---- what a controller calls for
wide_refusal : (width : ℕ) (s : Status) → s ≡ TooWideForC width → IsRefusal s
wide_refusal width s is = plain_refusal s (ap sort_of is)

program_telling : (k : AnyController) (s : Status) → ProgramCalls k s → IsTelling s
program_telling k s (inl wide) = (wide_refusal (any_numbers k).width s wide.1).telling
program_telling k s (inr narrow) = done_telling s narrow.1

-- ---- the header
-- that of its program is that of its machine's
pub header_there : (name text : List ℕ) (n : Numbers) (k : AnyController) → n ≡ any_numbers k → ((m : Machine) → text ≡ header_text name n (written_program m n)) →
    text ≡ header_text name (any_numbers k) (any_program k)
header_there name text n k e h = h (any_machine k) ∙ ap (λ (n : Numbers). header_text name n (written_program (any_machine k) n)) e

-- ---- its script
pub compile_sound : IsSoundWork compile_work
compile_sound = record { sound = (omega arith, controllers_refused 1, whole (λ k. ends (compile_act k)), program_telling); first = inl refl }

-- ---- what it left
written : WrittenProgramLaw
written = written_program_law program_law fast_program_law parted_program_law

program_there : (k : AnyController) (bytes : List ℕ) → IsAnyControllerText bytes k → HasAnyProgram k → IsAnyProgram k
program_there (Plain c) bytes right has = written Machines.Plain c right.controller has
program_there (Fast c) bytes right has = written Machines.Accelerated c right.controller has

pub compiled : (words : List (List ℕ)) (s : Status) (held now : Option Files) → s ≡ Done → leaves_of compile_work.script words s held now → IfSome held (λ files. IsSomeAnd now (IsCompiled words files))
compiled words s None now is left = tt
compiled words s (Some files) now is left = go (left_told words s files now compile_work.script left)
  where
    go : leaves_at compile_work.script (λ i. files (word_of words i)) words s (Some files) now → IsSomeAnd now (IsCompiled words files)
    go (inl none) = absurd (none.done is)
    go (inr (k, right, left_two)) =
        some_weaker now (λ new. Two (AreProgramTexts (word_of words 2) k) (BothStand files new (word_of words 3) (word_of words 4))) (IsCompiled words files) (λ new two. record {
          source = two.text;
          header = two.report;
          texts = record { read = k; right = right; program = program_there k right.bytes right.right two.are.has_program; is_source = two.are.is_source; is_header = two.are.is_header };
          source_file = two.true_of.first;
          header_file = two.true_of.second;
          others = two.true_of.others;
        }) (left_two.both is)
