-- Cells whose boxes hold all states: each state is served.
use Rattle.std.specs.Prelude.{◌≡◌, List, ℕ, Option, IfSome, IsSomeAnd}
use Rattle.io_edge.specs.Faults.{Files}
use Rattle.mat_int.specs.Matrix.{Matrix}
use Rattle.plan_lines.specs.ControllerFile.declared.any_controller.AnyController.{AnyController}
use Rattle.command_line.specs.Words.{word_of}
use Rattle.command_line.specs.Answers.{IsCaused}
use Rattle.command_line.specs.declared.status.Status.{Status}
use Rattle.command_line.specs.declared.status.Status.TheVariants.{Done}
use Rattle.command_serve.specs.Serve.{HoldsServed}
use Rattle.command_serve.specs.Printing.{AreServedPrinted}

-- all is done, but for want of memory and faults. And the output gets for each state the line of the first controller whose box holds it: all of them, a part that
-- isn't all where a print failed, or those of some first states
pub record IsAllServed (cells : List AnyController) (m : Matrix) (s : Status) (before now : Option (List ℕ)) : Type 0 where
  pub done : IsCaused s → s ≡ Done
  pub printed : IfSome before (λ old. IsSomeAnd now (AreServedPrinted cells m s old))

-- wherever the first two names hold such cells and states
abbrev pub ServesHeld : (words : List (List ℕ)) → Option Files → Status → (before now : Option (List ℕ)) → Type 0
ServesHeld words held s before now =
    IfSome held (λ files. (cells : List AnyController) (m : Matrix) → HoldsServed (files (word_of words 1)) (files (word_of words 2)) cells m → IsAllServed cells m s before now)
