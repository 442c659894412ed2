-- The line that tells of an answer.
use Rattle.std.specs.Prelude.{ℕ, List, [], ◌∷◌, ◌++◌, codes}
use Rattle.std.specs.List.{join_with_byte}
use Rattle.std.specs.Fmt.{decimal, signed_decimal}
use Rattle.qp_model.specs.refusal.Words.{refusal_words}
use Rattle.number_text.specs.declared.text_fault.TextFault.{TextFault}
use Rattle.number_text.specs.declared.text_fault.TextFault.TheVariants.{NotToml, Key, Shape, Range, Fields, Number, Count, Memory as NoRoom}
use Rattle.controller_text.specs.declared.bad_controller.BadController.{BadController}
use Rattle.controller_text.specs.declared.bad_controller.BadController.TheVariants.{Line, Unsafe, Memory as NoSpace}
use Rattle.command_line.specs.Status.{status_number}
use Rattle.command_line.specs.declared.status.Status.{Status}
use Rattle.command_line.specs.declared.status.Status.TheVariants.{Done, Memory, Usage, ReadFault, WriteFault, Text, Refused, Controller, OutsideBox, Long, Mismatch, Unequal, NoStay, Cell, Listing, Trap, TooWideForC, Moves, Unsettled, NoReturn}
use Rattle.command_line.specs.declared.status.Field.{Field}
use Rattle.command_line.specs.declared.status.Field.TheVariants.{States, Inputs, Grid}

-- the fault of a text: its name, and where it is
abbrev pub fault_words : TextFault → List (List ℕ)
fault_words NotToml = codes "not-toml" ∷ []
fault_words (Key place) = codes "key" ∷ decimal place ∷ []
fault_words (Shape place) = codes "shape" ∷ decimal place ∷ []
fault_words (Range place) = codes "range" ∷ decimal place ∷ []
fault_words (Fields entry) = codes "fields" ∷ decimal entry ∷ []
fault_words (Number entry field) = codes "number" ∷ decimal entry ∷ decimal field ∷ []
fault_words (Count entries) = codes "count" ∷ decimal entries ∷ []
fault_words NoRoom = codes "memory" ∷ []

-- why bytes are no controller's text
abbrev pub controller_words : BadController → List (List ℕ)
controller_words (Line l) = codes "line" ∷ decimal l ∷ []
controller_words Unsafe = codes "unsafe" ∷ []
controller_words NoSpace = codes "memory" ∷ []

-- what a design and a controller differ in
abbrev pub field_name : Field → List ℕ
field_name States = codes "states"
field_name Inputs = codes "inputs"
field_name Grid = codes "grid"

-- the name of an answer, and its numbers
abbrev pub status_words : Status → List (List ℕ)
status_words Done = []
status_words Memory = codes "memory" ∷ []
status_words Usage = codes "usage" ∷ []
status_words (ReadFault file) = codes "read-fault" ∷ decimal file ∷ []
status_words (WriteFault file) = codes "write-fault" ∷ decimal file ∷ []
status_words (Text file fault) = codes "text" ∷ decimal file ∷ fault_words fault
status_words (Refused refusal) = refusal_words refusal
status_words (Controller file fault) = codes "controller" ∷ decimal file ∷ controller_words fault
status_words (OutsideBox entry turn coordinate) = codes "outside-box" ∷ decimal entry ∷ decimal turn ∷ decimal coordinate ∷ []
status_words (Long file) = codes "long" ∷ decimal file ∷ []
status_words (Mismatch field design controller) = codes "mismatch" ∷ field_name field ∷ signed_decimal design ∷ signed_decimal controller ∷ []
status_words (Unequal entry input left right) = codes "unequal" ∷ decimal entry ∷ decimal input ∷ signed_decimal left ∷ signed_decimal right ∷ []
status_words (NoStay entry bound) = codes "no-stay" ∷ decimal entry ∷ signed_decimal bound ∷ []
status_words (Cell cell refusal) = codes "cell" ∷ decimal cell ∷ refusal_words refusal
status_words (Listing file line) = codes "listing" ∷ decimal file ∷ decimal line ∷ []
status_words (Trap entry step place) = codes "trap" ∷ decimal entry ∷ decimal step ∷ decimal place ∷ []
status_words (TooWideForC width) = codes "too-wide-c" ∷ decimal width ∷ []
status_words (Moves row left right) = codes "moves" ∷ decimal row ∷ signed_decimal left ∷ signed_decimal right ∷ []
status_words (Unsettled turn coordinate bound) = codes "unsettled" ∷ decimal turn ∷ decimal coordinate ∷ signed_decimal bound ∷ []
status_words (NoReturn turn coordinate bound) = codes "no-return" ∷ decimal turn ∷ decimal coordinate ∷ signed_decimal bound ∷ []

-- `error`, the exit status, the name and the numbers, one space between two, and a line feed; nothing where all was done
abbrev pub status_line : Status → List ℕ
status_line Done = []
status_line s = join_with_byte 32 (codes "error" ∷ decimal (status_number s) ∷ status_words s) ++ 10 ∷ []
