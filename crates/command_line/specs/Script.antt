-- The files that a command reads, one after the other, and what it does then. Its row of the table of commands follows.
use Rattle.std.specs.Prelude.{◌≡◌, ◌≢◌, ◌⊎◌, ℕ, Bool, true, false, List, Option, Some, None, ⊤}
use Rattle.io_edge.specs.Faults.{Files}
use Rattle.command_line.specs.Answers.{Contents, ForContents, FileHolds, IsFileRefused, IsCaused}
use Rattle.command_line.specs.Deeds.{Deeds}
use Rattle.command_line.specs.Kind.{Kind}
use Rattle.command_line.specs.declared.status.Status.{Status}
use Rattle.command_line.specs.declared.status.Status.TheVariants.{Done, WriteFault}

-- what a command does once its files are read
pub record Act : Type 1 where
  -- this answer is called for
  pub calls : Status → Type 0
  -- something is written or printed
  pub starts : Type 0
  -- what the output got by an answer
  pub shows : Status → (old new : List ℕ) → Type 0
  -- what the store tells after an answer, and told before, by the arguments
  pub leaves : List (List ℕ) → Status → (old new : Option Files) → Type 0

-- one that writes no file
abbrev pub printing_act : (calls : Status → Type 0) (starts : Type 0) (shows : Status → (old new : List ℕ) → Type 0) → Act
printing_act calls starts shows = record { calls = calls; starts = starts; shows = shows; leaves = λ words s old new. new ≡ old }

-- one that prints nothing
abbrev pub writing_act : (calls : Status → Type 0) (starts : Type 0) (leaves : List (List ℕ) → Status → (old new : Option Files) → Type 0) → Act
writing_act calls starts leaves = record { calls = calls; starts = starts; shows = λ s old new. new ≡ old; leaves = leaves }

pub data Script : Type 1 where
  -- the files are read
  ends : Act → Script
  -- the file at this position is read as of this kind, and what comes next is by its value
  reads : (file : ℕ) (k : Kind) → (k.Value → Script) → Script
  -- what was read is refused with a status, or this is true of it
  tests : (Refuses : Status → Type 0) (Passes : Type 0) → Script → Script

-- a file that is read where it is asked for, and what comes next is by its value where there is one
abbrev pub reads_where : (asked : Bool) (file : ℕ) (k : Kind) → (Option k.Value → Script) → Script
reads_where true file k next = reads file k (λ x. next (Some x))
reads_where false file k next = next None

-- what is said at each step of a script: of a file that is right, of one that stops it, of a test that does, and of its end
pub record Way : Type 1 where
  pub right : (file : ℕ) (k : Kind) → k.Value → Type 0
  pub stop : ℕ → Kind → Type 0
  pub fail : (Refuses : Status → Type 0) → Type 0
  pub end : Act → Type 0

-- A file or a test stops it, or all of them let it go on, and it ends.
abbrev pub Along : Way → Script → Type 0
Along way (ends a) = way.end a
Along way (reads file k next) = way.stop file k ⊎ ((x : k.Value) × way.right file k x × Along way (next x))
Along way (tests Refuses Passes next) = way.fail Refuses ⊎ (Passes × Along way next)

-- ---- what a script says of the contents of files
-- the file at a position is right for this value
abbrev pub HoldsAt : Contents → (file : ℕ) (k : Kind) → k.Value → Type 0
HoldsAt contents file k x = FileHolds k.limit (k.right x) (contents file)

-- the first file or test that refuses gives the answer, and else what is done then
abbrev pub calls_of : Script → Contents → Status → Type 0
calls_of script contents s =
    Along (record { right = HoldsAt contents; stop = λ file k. IsFileRefused k.limit file (k.wrong file) (contents file) s; fail = λ Refuses. Refuses s; end = λ a. a.calls s }) script

-- a file is read where those before it are right, and what they hold passes the tests
abbrev pub reaches_of : Script → Contents → ℕ → Type 0
reaches_of script contents at = Along (record { right = HoldsAt contents; stop = λ file k. at ≡ file; fail = λ Refuses. ⊥; end = λ a. ⊥ }) script

abbrev pub reads_of : Script → ℕ → Type 0
reads_of script at = Along (record { right = λ file k x. ⊤; stop = λ file k. at ≡ file; fail = λ Refuses. ⊥; end = λ a. ⊥ }) script

abbrev pub starts_of : Script → Contents → Type 0
starts_of script contents = Along (record { right = HoldsAt contents; stop = λ file k. ⊥; fail = λ Refuses. ⊥; end = λ a. a.starts }) script

-- nothing is left by an answer that no write gave: where it has a cause, it is this
pub record IsNothing {A : Type 0} (Why : Type 0) (s : Status) (old new : A) : Type 0 where
  pub done : s ≢ Done
  pub write : (file : ℕ) → s ≢ WriteFault file
  pub why : IsCaused s → Why
  pub same : new ≡ old

-- so it is where a file or a test refuses
abbrev pub leaving : {A : Type 0} → Contents → Status → (old new : A) → (Act → Type 0) → Way
leaving contents s old new End = record {
  right = HoldsAt contents;
  stop = λ file k. IsNothing (IsFileRefused k.limit file (k.wrong file) (contents file) s) s old new;
  fail = λ Refuses. IsNothing (Refuses s) s old new;
  end = End;
}

abbrev pub shows_of : Script → Contents → Status → (old new : List ℕ) → Type 0
shows_of script contents s old new = Along (leaving contents s old new (λ a. a.shows s old new)) script

abbrev pub leaves_at : Script → Contents → List (List ℕ) → Status → (old new : Option Files) → Type 0
leaves_at script contents words s old new = Along (leaving contents s old new (λ a. a.leaves words s old new)) script

abbrev pub leaves_of : Script → List (List ℕ) → Status → (old new : Option Files) → Type 0
leaves_of script words s old new = ForContents words old (λ contents. leaves_at script contents words s old new)

-- ---- a command by its script: what it writes, whether it prints, and which answers may come after something was printed
pub record Work : Type 1 where
  pub script : Script
  pub writes : ℕ → Type 0
  pub prints : Type 0
  pub tells : Status → Type 0

-- of one that prints, and writes no file
abbrev pub printing_work : Script → (tells : Status → Type 0) → Work
printing_work script tells = record { script = script; writes = λ file. ⊥; prints = ⊤; tells = tells }

-- of one that writes these files, and prints nothing
abbrev pub writing_work : Script → (writes : ℕ → Type 0) → Work
writing_work script writes = record { script = script; writes = writes; prints = ⊥; tells = λ s. ⊥ }

-- its row of the table of commands
abbrev pub deeds_of_work : Work → Deeds
deeds_of_work w = record {
  reads = reads_of w.script;
  writes = w.writes;
  prints = w.prints;
  calls = calls_of w.script;
  reaches = reaches_of w.script;
  starts = starts_of w.script;
  tells = w.tells;
  shows = shows_of w.script;
  leaves = leaves_of w.script;
}
