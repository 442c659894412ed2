-- What `play` tells and prints: a trap after a line is of the second record or a later one, and where a controller's listing is played no run traps.
use Rattle.std.proofs.Common.{◌≡◌, ℕ, ◌<◌, List, [], ◌∷◌, length, Option, Some, refl, arith}
use Rattle.io_edge.specs.Faults.{Files}
use Rattle.mat_int.specs.Matrix.{Matrix, row_of}
use Rattle.qp_model.specs.machine.Controller.{Numbers}
use Rattle.qp_model.specs.machine.AbsoluteSums.{IsController}
use Rattle.qp_model.specs.machine.Machine.{IsAdmissible}
use Rattle.mac_listing.specs.Listing.{listing_of}
use Rattle.mac_machine.specs.Machine.{NeverTraps}
use Rattle.plan_lines.specs.Printing.{IsSolved}
use Rattle.command_line.specs.Answers.{FileHolds}
use Rattle.command_files.specs.Texts.{StatesRight}
use Rattle.command_line.specs.declared.status.Status.{Status}
use Rattle.command_line.specs.declared.status.Status.TheVariants.{Trap}
use Rattle.command_play.specs.Texts.{ListingRight}
use Rattle.command_play.specs.Printing.{TellsTrapLater}
use Rattle.command_play.specs.AsSolved.{HoldsListed, IsPlayed, PlaysAsSolved}
use Rattle.command_play.specs.Play.{play_deeds}

abbrev named : List (List ℕ)
named = [] ∷ (1 ∷ []) ∷ (2 ∷ []) ∷ []

after_a_line : TellsTrapLater (Trap 2 5 7)
after_a_line = (2, 5, 7, refl, omega arith)

-- a trap in the first run comes before any line
before_any_line : TellsTrapLater (Trap 1 5 7) → ⊥
before_any_line told =
    let is = told.3 in
    let first : told.0 ≡ 1 = cc in
    omega (arith, first, told.4)

as_the_table_tells : play_deeds.tells (Trap 2 5 7)
as_the_table_tells = after_a_line

before_any_line_in_the_table : play_deeds.tells (Trap 1 5 7) → ⊥
before_any_line_in_the_table = before_any_line

each_run_has_room : (c : Numbers) (m : Matrix) (s : Status) (before now : Option (List ℕ)) → IsPlayed c m s before now →
    (e : ℕ) → e < length m.rows → NeverTraps (listing_of c) (row_of m e)
each_run_has_room c m s before now it = it.room

as_solved : (c : Numbers) (m : Matrix) (s : Status) (before now : Option (List ℕ)) → IsPlayed c m s before now → IsSolved c m s before now
as_solved c m s before now it = it.solved

of_the_controller : (listing states : Option (List ℕ)) (c : Numbers) (m : Matrix) → HoldsListed listing states c m → FileHolds 4194304 (ListingRight (listing_of c)) listing
of_the_controller listing states c m it = it.listing_right

from_the_states : (listing states : Option (List ℕ)) (c : Numbers) (m : Matrix) → HoldsListed listing states c m → FileHolds 4194304 (StatesRight c.states m) states
from_the_states listing states c m it = it.states_right

from_states_inside : (listing states : Option (List ℕ)) (c : Numbers) (m : Matrix) → HoldsListed listing states c m → (e : ℕ) → e < length m.rows → IsAdmissible c (row_of m e)
from_states_inside listing states c m it = it.inside

-- no more is asked
where_these_hold : (listing states : Option (List ℕ)) (c : Numbers) (m : Matrix) → IsController c → FileHolds 4194304 (ListingRight (listing_of c)) listing →
    FileHolds 4194304 (StatesRight c.states m) states → ((e : ℕ) → e < length m.rows → IsAdmissible c (row_of m e)) → HoldsListed listing states c m
where_these_hold listing states c m sound text rows inside = record { sound = sound; listing_right = text; states_right = rows; inside = inside }

-- the first file holds the listing, the second the states
of_its_two_files : (files : Files) (s : Status) (before now : Option (List ℕ)) → PlaysAsSolved named (Some files) s before now →
    (c : Numbers) (m : Matrix) → HoldsListed (files (1 ∷ [])) (files (2 ∷ [])) c m → IsPlayed c m s before now
of_its_two_files files s before now it = it
