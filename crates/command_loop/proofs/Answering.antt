-- The script of `loop`, and what is answered and printed once its files are read.
use Rattle.std.proofs.Common.{◌≡◌, ◌≢◌, inl, inr, ℕ, Bool, true, false, Option, Some, None, refl, ap, subst, arith}
use Rattle.io_edge.specs.declared.sink.Sink.{Ghosts as Screen}
use Rattle.mat_int.specs.Matrix.{Matrix}
use Rattle.qp_model.specs.problem.Design.{Design}
use Rattle.qp_model.specs.machine.Controller.{Numbers}
use Rattle.controller_file.specs.AnyText.{any_numbers}
use Rattle.controller_file.specs.declared.any_controller.AnyController.{AnyController}
use Rattle.command_line.specs.Answers.{IsAnswer, IsCaused}
use Rattle.command_line.specs.Script.{ends}
use Rattle.command_line.specs.Does.{IsTelling, Prints}
use Rattle.command_line.proofs.Doing.{done_telling, sort_of, plain_refusal}
use Rattle.command_line.proofs.Gathering.{IsSound, whole}
use Rattle.command_line.proofs.Following.{IsSoundWork}
use Rattle.command_line.specs.declared.status.Status.{Status}
use Rattle.command_line.specs.declared.status.Status.TheVariants.{ReadFault, WriteFault}
use Rattle.command_design_files.proofs.Stopping.{text_refused}
use Rattle.command_loop.specs.Loop.{Course, course_of_any, turn_size_of, MayPrintLine, LoopsCall, loop_act, loop_shifts, loop_states, loop_work, loop_deeds}
use Rattle.command_loop.specs.Printing.{LoopsEnd, LoopsDone}
use Rattle.command_loop.proofs.TwoFiles.{plant_sound}
use Rattle.command_loop.proofs.Uniqueness.{one_call}

-- ---- the script
loops_telling : (size : ℕ) (c : Numbers) (l : Course) (turns : ℕ) (m : Matrix) (s : Status) → LoopsCall size c l turns m s → IsTelling s
loops_telling size c l turns m s (inl wide) = (plain_refusal s (ap sort_of wide.is)).telling
loops_telling size c l turns m s (inr (inl leaving)) = (plain_refusal s (ap sort_of leaving.1.is)).telling
loops_telling size c l turns m s (inr (inr done)) = done_telling s done.0

module _ (turns : ℕ) where
  shifts_sound : (disturbed : Bool) (d : Design) (k : AnyController) (m : Matrix) → IsSound 4 (loop_shifts turns disturbed d k m)
  shifts_sound true d k m =
      (omega arith, text_refused 5, whole (λ v. ends (loop_act turns d k (Some v) m)), λ v. loops_telling (turn_size_of d k) (any_numbers k) (course_of_any d k (Some v)) turns m)
  shifts_sound false d k m = loops_telling (turn_size_of d k) (any_numbers k) (course_of_any d k None) turns m

  pub loop_sound : (disturbed : Bool) → IsSoundWork (loop_work turns disturbed)
  loop_sound disturbed = record {
    sound = plant_sound (loop_states turns disturbed) (λ d k. (omega arith, text_refused 3, whole (loop_shifts turns disturbed d k), shifts_sound disturbed d k));
    first = inl refl;
  }

-- ---- all files are right
module _ (size : ℕ) (c : Numbers) (l : Course) (turns : ℕ) (m : Matrix) (s : Status) where
  called : LoopsEnd size c l turns m s → IsCaused s → IsAnswer (LoopsCall size c l turns m) s
  called (inl memory) caused = absurd (caused.memory memory)
  called (inr (inl cut)) caused = absurd (caused.write 0 cut.0)
  called (inr (inr call)) caused = record { called = call; only = λ t other. one_call size c l m turns s t call other }

  started : LoopsEnd size c l turns m s → (file : ℕ) → s ≡ WriteFault file → (file ≡ 0) × MayPrintLine size c l turns m
  started (inl memory) file is = absurd (let never : ⊥ = cc in never)
  started (inr (inl cut)) file is = let e = cut.0 in (let same : file ≡ 0 = cc in same, cut.1)
  started (inr (inr (inl wide))) file is = let e = wide.is in absurd (let never : ⊥ = cc in never)
  started (inr (inr (inr (inl leaving)))) file is = let e = leaving.1.is in absurd (let never : ⊥ = cc in never)
  started (inr (inr (inr (inr done)))) file is = let e = done.0 in absurd (let never : ⊥ = cc in never)

  no_read : LoopsEnd size c l turns m s → (file : ℕ) → s ≢ ReadFault file
  no_read (inl memory) file is = cc
  no_read (inr (inl cut)) file is = let e = cut.0 in cc
  no_read (inr (inr (inl wide))) file is = let e = wide.is in cc
  no_read (inr (inr (inr (inl leaving)))) file is = let e = leaving.1.is in cc
  no_read (inr (inr (inr (inr done)))) file is = let e = done.0 in cc

pub loops_printed : (d : Design) (k : AnyController) (v : Option Matrix) (turns : ℕ) (m : Matrix) (s : Status) {O : Type 0} (screen : Screen O) (disturbed : Bool) (out now : O) →
    LoopsDone screen (turn_size_of d k) (any_numbers k) (course_of_any d k v) turns m out now s → Prints screen (loop_deeds turns disturbed) out now s (loop_act turns d k v m)
loops_printed d k v turns m s screen disturbed out now did =
    let size = turn_size_of d k in
    let c = any_numbers k in
    let l = course_of_any d k v in
    record {
      called = called size c l turns m s did.ends;
      read_fault = no_read size c l turns m s did.ends;
      write_fault = λ file is. let found = started size c l turns m s did.ends file is in (found.0, found.1, did.failed (subst (λ (i : ℕ). s ≡ WriteFault i) found.0 is));
      shows = did.printed;
      quiet = λ earlier. did.quiet earlier.done earlier.memory earlier.fault earlier.silent;
      no_fewer = did.no_fewer;
    }
