-- The exit status of each answer.
use Rattle.std.specs.Prelude.{ℕ}
use Rattle.command_line.specs.declared.status.Status.{Status}
use Rattle.command_line.specs.declared.status.Status.TheVariants.{Done, Memory, Usage, ReadFault, WriteFault, Text, Refused, Controller, OutsideBox, Long, Mismatch, Unequal, NoStay, Cell, Listing, Trap, TooWideForC, Moves, Unsettled, NoReturn}
use Rattle.qp_model.specs.declared.refusal.Refusal.{Refusal}
use Rattle.qp_model.specs.declared.refusal.Refusal.TheVariants as refusals

-- the status that tells of a refusal
abbrev pub status_of : Refusal → Status
status_of refusals.Memory = Memory
status_of refusal = Refused refusal

-- the exit status, where a design is refused
abbrev pub refusal_number : Refusal → ℕ
refusal_number refusals.Memory = 1
refusal_number (refusals.NoMargin corner row slack) = 6
refusal_number refusals.Curvature = 7
refusal_number (refusals.TooManySteps k) = 8
refusal_number (refusals.TooFine eps) = 9
refusal_number (refusals.TooWide quantity) = 10

abbrev pub status_number : Status → ℕ
status_number Done = 0
status_number Memory = 1
status_number Usage = 2
status_number (ReadFault file) = 3
status_number (WriteFault file) = 4
status_number (Text file fault) = 5
status_number (Refused refusal) = refusal_number refusal
status_number (Controller file fault) = 11
status_number (OutsideBox entry turn coordinate) = 12
status_number (Long file) = 13
status_number (Mismatch field design controller) = 14
status_number (Unequal entry input left right) = 16
status_number (NoStay entry bound) = 17
status_number (Cell cell refusal) = 18
status_number (Listing file line) = 20
status_number (Trap entry step place) = 21
status_number (TooWideForC width) = 22
status_number (Moves row left right) = 23
status_number (Unsettled turn coordinate bound) = 24
status_number (NoReturn turn coordinate bound) = 25
