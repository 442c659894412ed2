-- A certified controller that a file holds, solved from grid states of its design's box.
use Rattle.std.proofs.Common.{◌≡◌, ◌∙◌, inl, inr, ℕ, ℤ, ◌<◌, ◌≤◌, List, length, Option, Some, refl, sym, ap, subst}
use Rattle.io_edge.specs.Faults.{Files}
use Rattle.mat_int.specs.Matrix.{Matrix, row_of}
use Rattle.integer_algebra.specs.Sums.{at}
use Rattle.qp_model.specs.problem.Box.{IsGridState}
use Rattle.qp_model.specs.problem.Design.{Design}
use Rattle.qp_model.specs.problem.Parts.{design_of}
use Rattle.qp_model.specs.bounds.Built.{HasSizesOf}
use Rattle.qp_model.specs.bounds.Certified.{IsCertifiedAt}
use Rattle.fast_bounds.specs.FastCertified.{IsFastCertifiedAt}
use Rattle.controller_file.specs.Laws.{IsSomeControllerText}
use Rattle.controller_file.specs.AnyText.{any_numbers, IsAnyControllerText}
use Rattle.controller_file.specs.declared.any_controller.AnyController.{AnyController}
use Rattle.controller_file.specs.declared.any_controller.AnyController.TheVariants.{Plain, Fast}
use Rattle.controller_file.proofs.AnyText.{one_any, text_safe}
use Rattle.controller_file.proofs.Uniqueness.{one_any_controller}
use Rattle.plan_lines.specs.Inside.{AreInside}
use Rattle.plan_lines.specs.Printing.{Lines, IsSolvedBy, lines_by}
use Rattle.plan_lines.proofs.Acting.{lines_shown}
use Rattle.plan_lines.proofs.PlanLines.{no_line_yet}
use Rattle.plan_lines.proofs.Holding.{all_shown}
use Rattle.command_line.specs.Words.{word_of}
use Rattle.command_line.specs.Limit.{file_limit}
use Rattle.command_line.specs.Answers.{FileHolds}
use Rattle.command_line.specs.Deeds.{IsCalledFor}
use Rattle.command_line.specs.Script.{calls_of}
use Rattle.command_line.proofs.Following.{called_told}
use Rattle.command_line.specs.declared.status.Status.{Status}
use Rattle.command_line.specs.declared.status.Status.TheVariants.{Done}
use Rattle.command_files.specs.Texts.{AnyControllerRight, StatesRight}
use Rattle.command_files.specs.Reading.{any_controller_kind, states_kind}
use Rattle.command_files.proofs.OneThing.{one_content, one_states}
use Rattle.plan_lines.specs.Lines.{any_plan_line}
use Rattle.command_solve.specs.Solve.{HoldsRuns, solve_act, solve_script}
use Rattle.command_solve.specs.Deeds.{solve_work, solve_deeds}
use Rattle.command_laws.specs.Runs.{HasAnswered, HoldsGridStates, IsSolvedAs}
use Rattle.command_laws.specs.Laws.{WrittenSolveLaw, GenerateSolveLaw, FastGenerateSolveLaw, LeanSolveLaw, FastSolveLaw}
use Rattle.command_laws.proofs.States.{state_long, grid_state_held}

-- ---- what a file holds is one thing
some_text : (bytes : List ℕ) (k : AnyController) → IsAnyControllerText bytes k → IsSomeControllerText bytes (any_numbers k)
some_text bytes (Plain c) text = inl text
some_text bytes (Fast c) text = inr text

same_controller : (content : Option (List ℕ)) (a b : AnyController) → FileHolds file_limit (AnyControllerRight a) content →
    FileHolds file_limit (AnyControllerRight b) content → a ≡ b
same_controller content a b x y =
    let other = subst (λ (bytes : List ℕ). AnyControllerRight b bytes) (one_content file_limit file_limit content x y) y.right in
    one_any a b (text_safe x.bytes a x.right) (text_safe x.bytes b other)
    (one_any_controller x.bytes (any_numbers a) (any_numbers b) (some_text x.bytes a x.right) (some_text x.bytes b other))

-- ---- a run over files that hold a controller and states of its box
module _ (words : List (List ℕ)) (files : Files) (k : AnyController) (states : Matrix) (holds : HoldsRuns (files (word_of words 1)) (files (word_of words 2)) k states) where
  solve_done : calls_of solve_script (λ at. files (word_of words at)) Done
  solve_done = inr (k, holds.controller_right, inr (states, holds.states_right, inr (refl, holds.inside)))

  solve_called : IsCalledFor solve_deeds words (Some files) Done
  solve_called = called_told words Done files solve_work solve_done

  abbrev lines : Lines
  lines = lines_by (any_plan_line k) states

  none : (old new : List ℕ) → new ≡ old → lines.some old new
  none = no_line_yet (any_plan_line k) states

  is_solved : (s : Status) (before now : Option (List ℕ)) → HasAnswered solve_deeds words (Some files) s before now → IsSolvedBy (any_plan_line k) states s before now
  is_solved s before now run =
      let did = all_shown any_controller_kind (λ a. states_kind (any_numbers a).states) solve_act words files k states
      (λ a right. same_controller (files (word_of words 1)) a k right holds.controller_right)
      (λ m right. one_states (any_numbers k).states (files (word_of words 2)) m states right holds.states_right) lines none s
      (λ old new. lines_shown lines s old new (none old new) (AreInside (any_numbers k) states (length states.rows))) before now solve_done run.called run.prints in
      record { done = did.0; printed = did.1 }

-- ---- a controller whose box is that of a design, and what is certified at each grid state of it
module _ (d : Design) (k : AnyController) (P : List ℤ → Type 0) (sizes : HasSizesOf d (any_numbers k)) (certified : (xi : List ℤ) → length xi ≡ d.states → IsGridState d (at xi) → P xi) where
  solved_as : (words : List (List ℕ)) (files : Files) (states : Matrix) (s : Status) (before now : Option (List ℕ)) → FileHolds file_limit (AnyControllerRight k) (files (word_of words 1)) →
      HoldsGridStates d (files (word_of words 2)) states → HasAnswered solve_deeds words (Some files) s before now → IsSolvedAs k P words files states s before now
  solved_as words files states s before now right grid run = record {
    called = solve_called words files k states holds;
    solved = is_solved words files k states holds s before now run;
    certified = λ e lt. certified (row_of states e) (long e lt) (grid.inside e lt);
  }
    where
      long : (e : ℕ) → e < length states.rows → length (row_of states e) ≡ d.states
      long = state_long d (files (word_of words 2)) states grid

      holds : HoldsRuns (files (word_of words 1)) (files (word_of words 2)) k states
      holds = record {
        controller_right = right;
        states_right = subst (λ (n : ℕ). FileHolds file_limit (StatesRight n states) (files (word_of words 2))) (sym sizes.states) grid.states_right;
        inside = λ e lt. grid_state_held d (any_numbers k) sizes (row_of states e) (long e lt) (grid.inside e lt);
      }

  -- a text of it that was written is the one that is read
  abbrev written_solved : (first : ℕ) (words asked : List (List ℕ)) (left : Files) (text : List ℕ) → IsAnyControllerText text k → length text ≤ file_limit → left (word_of words first) ≡ Some text →
      WrittenSolveLaw first d words asked left (IsSolvedAs k P asked left)
  written_solved first words asked left text is_text short file states s before now same grid run =
      solved_as asked left states s before now (record { bytes = text; held = ap left same ∙ file; short = short; right = is_text }) grid run

pub generate_solve_law : GenerateSolveLaw
generate_solve_law words asked files left made =
    let from = made.made in
    written_solved (design_of from.p) (Plain made.controller) (IsCertifiedAt (design_of from.p) made.controller made.bounds) from.built.made.made.sizes from.certified 3 words asked left
    made.text made.is_text made.short made.controller_file

pub fast_generate_solve_law : FastGenerateSolveLaw
fast_generate_solve_law words asked files left made =
    let from = made.made in
    written_solved (design_of from.p) (Fast made.controller) (IsFastCertifiedAt (design_of from.p) made.controller made.bounds) from.made.built.made.made.sizes from.made.certified 3 words asked left
    made.text made.is_text made.short made.controller_file

pub lean_solve_law : LeanSolveLaw
lean_solve_law words asked files left made =
    let from = made.made in
    written_solved (design_of from.p) (Plain made.controller) (IsCertifiedAt (design_of from.p) made.controller made.bounds) from.made.built.made.made.sizes from.made.certified 4 words asked left
    made.text made.is_text made.short made.controller_file

pub fast_solve_law : FastSolveLaw
fast_solve_law words asked files left made =
    let from = made.made in
    written_solved (design_of from.p) (Fast made.controller) (IsFastCertifiedAt (design_of from.p) made.controller made.bounds) from.made.built.made.made.sizes from.made.certified 4 words asked left
    made.text made.is_text made.short made.controller_file
