-- What a command is to answer by what its files hold, whatever the store tells of them.
use Rattle.std.specs.Prelude.{◌≡◌, ◌≢◌, ◌⊎◌, ℕ, ◌<◌, ◌≤◌, List, length, Option, Some, IfSome}
use Rattle.io_edge.specs.Faults.{Files}
use Rattle.command_line.specs.Words.{word_of}
use Rattle.command_line.specs.declared.status.Status.{Status}
use Rattle.command_line.specs.declared.status.Status.TheVariants.{Memory, ReadFault, WriteFault, Long}

-- ---- the contents of files
-- what the file at each position among the arguments holds, where it is there
abbrev pub Contents : Type 0
Contents = ℕ → Option (List ℕ)

-- a name holds this, as far as the store tells
abbrev pub IsTold : Option Files → (name : List ℕ) → Option (List ℕ) → Type 0
IsTold held name content = IfSome held (λ files. content ≡ files name)

-- the names at all positions hold these contents, as far as the store tells
abbrev pub AreTold : List (List ℕ) → Option Files → Contents → Type 0
AreTold words held contents = (position : ℕ) → IsTold held (word_of words position) (contents position)

-- the files hold contents of which this is true: those that the store tells, and where it tells nothing some contents
pub record ForContents (words : List (List ℕ)) (held : Option Files) (P : Contents → Type 0) : Type 0 where
  pub contents : Contents
  pub told : AreTold words held contents
  pub true_of : P contents

-- ---- one file
-- the file holds bytes within the limit, and this is true of them
pub record FileHolds (limit : ℕ) (Right : List ℕ → Type 0) (content : Option (List ℕ)) : Type 0 where
  pub bytes : List ℕ
  pub held : content ≡ Some bytes
  pub short : length bytes ≤ limit
  pub right : Right bytes

-- the file at a position holds too many bytes, and the status says so
pub record IsLong (limit file : ℕ) (content : Option (List ℕ)) (s : Status) : Type 0 where
  pub bytes : List ℕ
  pub held : content ≡ Some bytes
  pub longer : limit < length bytes
  pub is : s ≡ Long file

-- the file at a position holds too many bytes, or bytes for which this status is the answer
abbrev pub IsFileRefused : (limit file : ℕ) → (Wrong : List ℕ → Status → Type 0) → Option (List ℕ) → Status → Type 0
IsFileRefused limit file Wrong content s = IsLong limit file content s ⊎ FileHolds limit (λ bytes. Wrong bytes s) content

-- ---- one answer
-- this status is called for, and no other is
pub record IsAnswer (Calls : Status → Type 0) (s : Status) : Type 0 where
  pub called : Calls s
  pub only : (t : Status) → Calls t → t ≡ s

-- no fault and not out of memory: an answer with a cause in the arguments and the files
pub record IsCaused (s : Status) : Type 0 where
  pub memory : s ≢ Memory
  pub read : (file : ℕ) → s ≢ ReadFault file
  pub write : (file : ℕ) → s ≢ WriteFault file
