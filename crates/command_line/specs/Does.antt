-- One clause for a command: what a run of it makes of its deeds.
use Rattle.std.specs.Prelude.{◌≡◌, ◌≢◌, ◌⊎◌, ℕ, ◌≤◌, List, None, IfSome, IsSomeAnd, ⊤}
use Rattle.io_edge.specs.Faults.{Rose, NoneFalls}
use Rattle.io_edge.specs.declared.store.Store.{Ghosts as Disk}
use Rattle.io_edge.specs.declared.sink.Sink.{Ghosts as Screen}
use Rattle.number_text.specs.declared.text_fault.TextFault.TheVariants.{Memory as no_room}
use Rattle.controller_text.specs.declared.bad_controller.BadController.TheVariants.{Memory as no_space}
use Rattle.command_line.specs.Words.{word_of}
use Rattle.command_line.specs.Answers.{ForContents, IsAnswer, IsCaused}
use Rattle.command_line.specs.Deeds.{Deeds, IsCalledFor, UsesNoFile, IsUnwritten, IsBeforePrinting, IsUnprinted, WriteFailed, NoneRises}
use Rattle.command_line.specs.Script.{Act}
use Rattle.command_line.specs.declared.status.Status.{Status}
use Rattle.command_line.specs.declared.status.Status.TheVariants.{Memory, Usage, ReadFault, WriteFault, Text, Controller}

-- an answer that isn't for the arguments, and says of no text that it is wrong for want of memory
pub record IsTelling (s : Status) : Type 0 where
  pub usage : s ≢ Usage
  pub text : (file : ℕ) → s ≢ Text file no_room
  pub controller : (file : ℕ) → s ≢ Controller file no_space

-- A run with these arguments, from the store and the output before to those now, answers s and does what the row says.
pub record Does {S O : Type 0} (disk : Disk S) (screen : Screen O) (words : List (List ℕ)) (deeds : Deeds) (before now : S) (out out_now : O) (s : Status) : Type 0 where
  -- why: by what the files hold this answer is called for, and no other
  pub called : IsCaused s → ForContents words (disk.held before) (λ contents. IsAnswer (deeds.calls contents) s)
  pub telling : IsTelling s
  -- where whatever the files may hold calls for an answer, and no count rises, the answer is that one, or out of memory
  pub complete : (t : Status) → IsCalledFor deeds words (disk.held before) t →
      NoneRises deeds words (disk.read_faults before) (disk.read_faults now) (disk.write_faults before) (disk.write_faults now) (screen.faults out) (screen.faults out_now) → (s ≡ t) ⊎ (s ≡ Memory)
  -- a fault comes where the count rose, and where all that comes before it is in order
  pub read_fault : (file : ℕ) → s ≡ ReadFault file →
      ForContents words (disk.held before) (λ contents. deeds.reaches contents file) × Rose (disk.read_faults before (word_of words file)) (disk.read_faults now (word_of words file))
  pub write_fault : (file : ℕ) → s ≡ WriteFault file →
      ForContents words (disk.held before) deeds.starts × WriteFailed deeds words file (disk.write_faults before) (disk.write_faults now) (screen.faults out) (screen.faults out_now)
  -- what the output got, and what the store holds
  pub shows : IfSome (screen.got out) (λ old. IsSomeAnd (screen.got out_now) (λ new. ForContents words (disk.held before) (λ contents. deeds.shows contents s old new)))
  pub quiet : IsUnprinted deeds s → out_now ≡ out
  pub leaves : deeds.leaves words s (disk.held before) (disk.held now)
  pub held : IsUnwritten deeds s → disk.held now ≡ disk.held before
  pub unused : UsesNoFile deeds → now ≡ before
  -- no count falls
  pub reads : NoneFalls (disk.read_faults before) (disk.read_faults now)
  pub writes : NoneFalls (disk.write_faults before) (disk.write_faults now)
  pub no_fewer : screen.faults out ≤ screen.faults out_now

-- ---- what a command does once its files are read
pub record Acts {S O : Type 0} (disk : Disk S) (screen : Screen O) (words : List (List ℕ)) (deeds : Deeds) (before now : S) (out out_now : O) (s : Status) (a : Act) : Type 0 where
  pub called : IsCaused s → IsAnswer a.calls s
  pub read_fault : (file : ℕ) → s ≢ ReadFault file
  pub write_fault : (file : ℕ) → s ≡ WriteFault file → a.starts × WriteFailed deeds words file (disk.write_faults before) (disk.write_faults now) (screen.faults out) (screen.faults out_now)
  pub shows : IfSome (screen.got out) (λ old. IsSomeAnd (screen.got out_now) (a.shows s old))
  pub quiet : IsUnprinted deeds s → out_now ≡ out
  pub leaves : a.leaves words s (disk.held before) (disk.held now)
  pub held : IsUnwritten deeds s → disk.held now ≡ disk.held before
  pub reads : NoneFalls (disk.read_faults before) (disk.read_faults now)
  pub writes : NoneFalls (disk.write_faults before) (disk.write_faults now)
  pub no_fewer : screen.faults out ≤ screen.faults out_now

-- so far as the output goes
pub record Prints {O : Type 0} (screen : Screen O) (deeds : Deeds) (out out_now : O) (s : Status) (a : Act) : Type 0 where
  pub called : IsCaused s → IsAnswer a.calls s
  pub read_fault : (file : ℕ) → s ≢ ReadFault file
  pub write_fault : (file : ℕ) → s ≡ WriteFault file → (file ≡ 0) × a.starts × Rose (screen.faults out) (screen.faults out_now)
  pub shows : IfSome (screen.got out) (λ old. IsSomeAnd (screen.got out_now) (a.shows s old))
  pub quiet : IsBeforePrinting deeds s → out_now ≡ out
  pub no_fewer : screen.faults out ≤ screen.faults out_now

-- ---- a command that has no output
abbrev pub no_output : Screen ⊤
no_output = record { got = λ out. None; faults = λ out. 0 }

abbrev pub DoesInStore : {S : Type 0} → Disk S → List (List ℕ) → Deeds → (before now : S) → Status → Type 0
DoesInStore disk words deeds before now s = Does disk no_output words deeds before now tt tt s

abbrev pub ActsInStore : {S : Type 0} → Disk S → List (List ℕ) → Deeds → (before now : S) → Status → Act → Type 0
ActsInStore disk words deeds before now s a = Acts disk no_output words deeds before now tt tt s a
