-- The listing of a controller, played: it prints what the controller is solved to.
use Rattle.std.specs.Prelude.{ℕ, List, length, Option, IfSome}
use Rattle.io_edge.specs.Faults.{Files}
use Rattle.mat_int.specs.Matrix.{Matrix}
use Rattle.qp_model.specs.machine.Controller.{Numbers}
use Rattle.qp_model.specs.machine.AbsoluteSums.{IsController}
use Rattle.mac_listing.specs.Listing.{listing_of}
use Rattle.plan_lines.specs.Inside.{AreInside}
use Rattle.plan_lines.specs.Printing.{IsSolved}
use Rattle.command_line.specs.Words.{word_of}
use Rattle.command_line.specs.Limit.{file_limit}
use Rattle.command_line.specs.Answers.{FileHolds}
use Rattle.command_files.specs.Texts.{StatesRight}
use Rattle.command_play.specs.Texts.{ListingRight}
use Rattle.command_play.specs.Plays.{HaveRunRoom}
use Rattle.command_line.specs.declared.status.Status.{Status}

-- two files hold the text of the listing of a controller, and states that all lie in the controller's box
pub record HoldsListed (listing states : Option (List ℕ)) (c : Numbers) (m : Matrix) : Type 0 where
  pub sound : IsController c
  pub listing_right : FileHolds file_limit (ListingRight (listing_of c)) listing
  pub states_right : FileHolds file_limit (StatesRight c.states m) states
  pub inside : AreInside c m (length m.rows)

-- no value of the runs leaves the controller's width, which is the listing's, so that none traps; and the output gets the lines of the controller's averaged plans
pub record IsPlayed (c : Numbers) (m : Matrix) (s : Status) (before now : Option (List ℕ)) : Type 0 where
  pub room : HaveRunRoom (listing_of c) m (length m.rows)
  pub solved : IsSolved c m s before now

-- wherever the first two names hold these
abbrev pub PlaysAsSolved : (words : List (List ℕ)) → Option Files → Status → (before now : Option (List ℕ)) → Type 0
PlaysAsSolved words held s before now =
    IfSome held (λ files. (c : Numbers) (m : Matrix) → HoldsListed (files (word_of words 1)) (files (word_of words 2)) c m → IsPlayed c m s before now)
