-- What `list` leaves in the store: the listing of the controller that its first file holds.
use Rattle.std.specs.Prelude.{◌≡◌, ℕ, ◌≤◌, List, length, Option, IfSome, IsSomeAnd, ⊤}
use Rattle.io_edge.specs.Faults.{Files, IsWritten, IsCutShort}
use Rattle.qp_model.specs.machine.Controller.{Numbers}
use Rattle.mac_listing.specs.Listing.{listing_of}
use Rattle.mac_listing.specs.Text.{IsListingText}
use Rattle.command_line.specs.Words.{word_of}
use Rattle.command_line.specs.Limit.{file_limit}
use Rattle.command_line.specs.Deeds.{Deeds}
use Rattle.command_line.specs.Script.{Act, writing_act, Script, ends, reads, Work, writing_work, deeds_of_work}
use Rattle.command_files.specs.Reading.{controller_kind}
use Rattle.command_line.specs.declared.status.Status.{Status}
use Rattle.command_line.specs.declared.status.Status.TheVariants.{Done, WriteFault}

-- the second name holds the text of the listing of the controller, no longer than a file may be, and every other name what it held
pub record IsListed (words : List (List ℕ)) (c : Numbers) (files new : Files) : Type 0 where
  pub text : List ℕ
  pub is_text : IsListingText text (listing_of c)
  pub short : length text ≤ file_limit
  pub written : IsWritten files new (word_of words 2) text

-- the text was cut short, and every other name holds what it held
pub record IsListingCut (words : List (List ℕ)) (c : Numbers) (files new : Files) : Type 0 where
  pub text : List ℕ
  pub is_text : IsListingText text (listing_of c)
  pub short : length text ≤ file_limit
  pub cut : IsCutShort files new (word_of words 2) text

-- by the answer: the text stands, or its write was cut short
pub record ListLeaves (c : Numbers) (words : List (List ℕ)) (s : Status) (old new : Option Files) : Type 0 where
  pub listed : s ≡ Done → IfSome old (λ files. IsSomeAnd new (IsListed words c files))
  pub cut : s ≡ WriteFault 2 → IfSome old (λ files. IsSomeAnd new (IsListingCut words c files))

abbrev pub list_act : Numbers → Act
list_act c = writing_act (λ s. s ≡ Done) ⊤ (ListLeaves c)

abbrev pub list_script : Script
list_script = reads 1 controller_kind (λ c. ends (list_act c))

-- ---- its row of the table of commands
abbrev pub list_work : Work
list_work = writing_work list_script (λ file. file ≡ 2)

abbrev pub list_deeds : Deeds
list_deeds = deeds_of_work list_work
