-- A run of a command along its script.
use Rattle.std.specs.Prelude.{◌≡◌, ℕ, List, Result, IfOk, IfErr}
use Rattle.io_edge.specs.declared.store.Store.{Ghosts as Disk}
use Rattle.io_edge.specs.declared.sink.Sink.{Ghosts as Screen}
use Rattle.command_line.specs.Words.{word_of}
use Rattle.command_line.specs.Deeds.{Deeds}
use Rattle.command_line.specs.Kind.{Kind, IsRead, EndsRead, Passes}
use Rattle.command_line.specs.Script.{Act, Script, Way, Along}
use Rattle.command_line.specs.Does.{Acts, no_output}
use Rattle.command_line.specs.declared.status.Status.{Status}

-- a file or a test ended it with this status, and reads alone came before
pub record Stops {S O : Type 0} (disk : Disk S) (before now : S) (out out_now : O) (Why : Type 0) : Type 0 where
  pub why : Why
  pub passes : Passes disk before now
  pub silent : out_now ≡ out

abbrev pub EndsAtFile : {S : Type 0} → Disk S → List (List ℕ) → (before now : S) → Status → ℕ → Kind → Type 0
EndsAtFile disk words before now s file k = EndsRead k file (disk.held before) (word_of words file) (disk.read_faults before (word_of words file)) (disk.read_faults now (word_of words file)) s

module _ {S O : Type 0} (disk : Disk S) (screen : Screen O) (words : List (List ℕ)) (deeds : Deeds) (before now : S) (out out_now : O) (s : Status) where
  abbrev pub Stopping : ℕ → Kind → Type 0
  Stopping file k = Stops disk before now out out_now (EndsAtFile disk words before now s file k)

  abbrev pub Failing : (Status → Type 0) → Type 0
  Failing Refuses = Stops disk before now out out_now (Refuses s)

  abbrev pub Ending : Act → Type 0
  Ending a = Acts disk screen words deeds before now out out_now s a

  abbrev pub running : Way
  running = record { right = λ file k x. IsRead k file (disk.held before) (word_of words file) x; stop = Stopping; fail = Failing; end = Ending }

  pub record Runs (script : Script) : Type 0 where
    pub run : Along running script

-- of a command that has no output
abbrev pub RunsInStore : {S : Type 0} → Disk S → List (List ℕ) → Deeds → (before now : S) → Status → Script → Type 0
RunsInStore disk words deeds before now s script = Runs disk no_output words deeds before now tt tt s script

-- what a reader of files gave: what then runs along what comes next has run along the script, and so has the status that ended it
pub record ReadsAlong {S X : Type 0} (disk : Disk S) (words : List (List ℕ)) (deeds : Deeds) (script : Script) (next : X → Script) (r : Result X Status) (before mid : S) : Type 0 where
  pub went : IfOk r (λ x. (now : S) (s : Status) → RunsInStore disk words deeds mid now s (next x) → RunsInStore disk words deeds before now s script)
  pub ended : IfErr r (λ s. RunsInStore disk words deeds before mid s script)
