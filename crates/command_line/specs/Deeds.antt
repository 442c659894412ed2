-- What a command does, as far as the program's clauses speak of it: a row of the table of commands.
use Rattle.std.specs.Prelude.{◌≡◌, ◌≢◌, ◌⊎◌, ℕ, List, Option}
use Rattle.io_edge.specs.Faults.{Files, Rose}
use Rattle.command_line.specs.Words.{word_of}
use Rattle.command_line.specs.Answers.{Contents, AreTold}
use Rattle.command_line.specs.declared.status.Status.{Status}
use Rattle.command_line.specs.declared.status.Status.TheVariants.{Done, Memory, WriteFault}

-- Files are told by their positions among the arguments, and what they hold by `Contents`.
pub record Deeds : Type 1 where
  -- it reads the file at this position
  pub reads : ℕ → Type 0
  -- it writes it
  pub writes : ℕ → Type 0
  -- it prints
  pub prints : Type 0
  -- what the files hold calls for this answer
  pub calls : Contents → Status → Type 0
  -- the file at this position is read, where the files hold this: those before it are in order
  pub reaches : Contents → ℕ → Type 0
  -- something is written or printed, where the files hold this: all tests before it are passed
  pub starts : Contents → Type 0
  -- this answer, neither `Done` nor a fault nor out of memory, may come after something was printed
  pub tells : Status → Type 0
  -- what the output got by an answer, where the files hold this
  pub shows : Contents → Status → (old new : List ℕ) → Type 0
  -- what the store tells after an answer, and told before, by the arguments
  pub leaves : List (List ℕ) → Status → (old new : Option Files) → Type 0

-- the answer is called for by whatever the files may hold, as far as the store tells
abbrev pub IsCalledFor : Deeds → List (List ℕ) → Option Files → Status → Type 0
IsCalledFor deeds words held s = (contents : Contents) → AreTold words held contents → deeds.calls contents s

-- it uses no file
pub record UsesNoFile (deeds : Deeds) : Type 0 where
  pub reads : (file : ℕ) → ¬ deeds.reads file
  pub writes : (file : ℕ) → ¬ deeds.writes file

-- nothing was written where this is the answer: it writes no file, or the answer is neither `Done` nor a fault of writing
abbrev pub IsUnwritten : Deeds → Status → Type 0
IsUnwritten deeds s = ((file : ℕ) → ¬ deeds.writes file) ⊎ ((s ≢ Done) × ((file : ℕ) → s ≢ WriteFault file))

-- an answer that comes before anything was printed: neither `Done` nor out of memory nor a fault of the output, nor one that tells of what was met on the way
pub record IsBeforePrinting (deeds : Deeds) (s : Status) : Type 0 where
  pub done : s ≢ Done
  pub memory : s ≢ Memory
  pub fault : s ≢ WriteFault 0
  pub silent : ¬ deeds.tells s

-- nothing was printed where this is the answer: it doesn't print, or the answer comes before
abbrev pub IsUnprinted : Deeds → Status → Type 0
IsUnprinted deeds s = ¬ deeds.prints ⊎ IsBeforePrinting deeds s

-- a write failed: the count of the output's faults rose, or that of the file's failed writes
abbrev pub WriteFailed : Deeds → List (List ℕ) → ℕ → (before now : List ℕ → ℕ) → (printed_before printed_now : ℕ) → Type 0
WriteFailed deeds words file before now printed_before printed_now =
    ((file ≡ 0) × deeds.prints × Rose printed_before printed_now) ⊎ (deeds.writes file × Rose (before (word_of words file)) (now (word_of words file)))

-- no count rises that the command can raise: of the files that it reads, of those that it writes, and of the output where it prints
pub record NoneRises (deeds : Deeds) (words : List (List ℕ)) (reads_before reads_now writes_before writes_now : List ℕ → ℕ) (printed_before printed_now : ℕ) : Type 0 where
  pub reads : (file : ℕ) → deeds.reads file → ¬ Rose (reads_before (word_of words file)) (reads_now (word_of words file))
  pub writes : (file : ℕ) → deeds.writes file → ¬ Rose (writes_before (word_of words file)) (writes_now (word_of words file))
  pub output : deeds.prints → ¬ Rose printed_before printed_now
