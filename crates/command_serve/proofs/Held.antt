-- Where the boxes of cells hold all states, each is served.
use Rattle.std.proofs.Common.{◌≡◌, ◌∙◌, inr, ℕ, List, [], length, Option, Some, None, refl, sym, subst, zero-le}
use Rattle.std.specs.Prelude.{IfSome, IsSomeAnd}
use Rattle.std.proofs.lemmas.List.{append-nil}
use Rattle.io_edge.specs.Faults.{Files}
use Rattle.mat_int.specs.Matrix.{Matrix}
use Rattle.plan_lines.specs.ControllerFile.declared.any_controller.AnyController.{AnyController}
use Rattle.cell_file.proofs.Texts.{one_any_cells}
use Rattle.command_line.specs.Words.{word_of}
use Rattle.command_line.specs.Limit.{cells_limit}
use Rattle.command_line.specs.Answers.{Contents, ForContents, FileHolds, IsAnswer, IsCaused}
use Rattle.command_line.specs.Script.{calls_of, shows_of}
use Rattle.command_line.specs.declared.status.Status.{Status}
use Rattle.command_line.specs.declared.status.Status.TheVariants.{Done}
use Rattle.command_files.specs.Texts.{CellsRight}
use Rattle.command_files.specs.Reading.{cells_kind, states_kind}
use Rattle.command_files.proofs.OneThing.{one_content, one_states}
use Rattle.plan_lines.proofs.Acting.{lines_shown}
use Rattle.plan_lines.proofs.Holding.{all_shown}
use Rattle.command_serve.specs.Served.{cell_states, AreServed}
use Rattle.command_serve.specs.Serve.{serve_act, serve_script, HoldsServed}
use Rattle.command_serve.specs.Printing.{AddsSomeLines, served_lines}
use Rattle.command_serve.specs.Held.{ServesHeld}

-- ---- what a file holds is one thing
same_cells : (content : Option (List ℕ)) (a b : List AnyController) → FileHolds cells_limit (CellsRight a) content → FileHolds cells_limit (CellsRight b) content → a ≡ b
same_cells content a b x y =
    one_any_cells x.bytes a b x.right (subst (λ (bytes : List ℕ). CellsRight b bytes) (one_content cells_limit cells_limit content x y) y.right)

pub called_done : (k : Contents) (cells : List AnyController) (m : Matrix) → HoldsServed (k 1) (k 2) cells m → calls_of serve_script k Done
called_done k cells m holds = inr (cells, holds.cells_right, inr (m, holds.states_right, inr (refl, holds.served)))

pub serves_held : (words : List (List ℕ)) (held : Option Files) (s : Status) (before now : Option (List ℕ)) → (IsCaused s → ForContents words held (λ k. IsAnswer (calls_of serve_script k) s)) →
    IfSome before (λ old. IsSomeAnd now (λ new. ForContents words held (λ k. shows_of serve_script k s old new))) → ServesHeld words held s before now
serves_held words None s before now called prints = tt
serves_held words (Some files) s before now called prints = λ cells m holds.
    let none : (old new : List ℕ) → new ≡ old → AddsSomeLines cells m old new = λ old new same. record { count = 0; some = zero-le; text = []; lines = refl; printed = same ∙ sym (append-nil old) } in
    let did = all_shown cells_kind (λ cs. states_kind (cell_states cs)) serve_act words files cells m (λ cs right. same_cells (files (word_of words 1)) cs cells right holds.cells_right)
    (λ n right. one_states (cell_states cells) (files (word_of words 2)) n m right holds.states_right) (served_lines cells m) none s
    (λ old new. lines_shown (served_lines cells m) s old new (none old new) (AreServed cells m (length m.rows))) before now (called_done (λ at. files (word_of words at)) cells m holds) called prints in
    record { done = did.0; printed = did.1 }
