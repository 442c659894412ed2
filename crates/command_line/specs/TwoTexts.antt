-- Two texts that a command makes of what it read, and writes one after the other under the names at two positions.
use Rattle.std.specs.Prelude.{◌≡◌, ◌≢◌, ◌⊎◌, ℕ, List, Option, Some, IfSome, IsSomeAnd}
use Rattle.io_edge.specs.Faults.{Files, Rose, NoneFalls, IsCutShort, IsProperPrefix}
use Rattle.io_edge.specs.declared.store.Store.{Ghosts as Disk}
use Rattle.command_line.specs.Words.{word_of}
use Rattle.command_line.specs.Answers.{IsAnswer, IsCaused}
use Rattle.command_line.specs.Script.{Act, writing_act, Script, Work, writing_work}
use Rattle.command_line.specs.declared.status.Status.{Status}
use Rattle.command_line.specs.declared.status.Status.TheVariants.{Done, ReadFault, WriteFault}

-- ---- what stands under two names
-- both texts, and under every other name what stood there
pub record BothStand (old new : Files) (one two text report : List ℕ) : Type 0 where
  pub first : new one ≡ Some text
  pub second : new two ≡ Some report
  pub others : (q : List ℕ) → q ≢ one → q ≢ two → new q ≡ old q

-- the first whole, and under the second name what stood there or a proper prefix of the second
pub record FirstStands (old new : Files) (one two text report : List ℕ) : Type 0 where
  pub first : new one ≡ Some text
  pub second : (new two ≡ old two) ⊎ IsSomeAnd (new two) (IsProperPrefix report)
  pub others : (q : List ℕ) → q ≢ one → q ≢ two → new q ≡ old q

-- ---- a run
-- there are two texts that are such, and this is true of them
pub record Two (Texts P : (text report : List ℕ) → Type 0) : Type 0 where
  pub text : List ℕ
  pub report : List ℕ
  pub are : Texts text report
  pub true_of : P text report

-- by the answer: both stand, or the write of the first or of the second was cut short
pub record LeavesTwo (Texts : (text report : List ℕ) → Type 0) (first second : ℕ) (words : List (List ℕ)) (s : Status) (old new : Option Files) : Type 0 where
  pub both : s ≡ Done → IfSome old (λ files. IsSomeAnd new (λ now. Two Texts (BothStand files now (word_of words first) (word_of words second))))
  pub first_cut : s ≡ WriteFault first → IfSome old (λ files. IsSomeAnd new (λ now. Two Texts (λ text report. IsCutShort files now (word_of words first) text)))
  pub second_cut : s ≡ WriteFault second → IfSome old (λ files. IsSomeAnd new (λ now. Two Texts (FirstStands files now (word_of words first) (word_of words second))))

-- what is done once the files are read: by what they hold this is called for, and with `Done` there are two texts that are such
abbrev pub two_texts : (Calls : Status → Type 0) → (Texts : List (List ℕ) → (text report : List ℕ) → Type 0) → (first second : ℕ) → Act
two_texts Calls Texts first second = writing_act Calls (Calls Done) (λ words s old new. LeavesTwo (Texts words) first second words s old new)

abbrev pub two_work : Script → (first second : ℕ) → Work
two_work script first second = writing_work script (λ file. (file ≡ first) ⊎ (file ≡ second))

-- ---- on the way
-- No texts are made: out of memory, or this is called for, and no other.
pub record IsUnmade (Calls : Status → Type 0) (s : Status) : Type 0 where
  pub called : IsCaused s → IsAnswer Calls s
  pub done : s ≢ Done
  pub read : (file : ℕ) → s ≢ ReadFault file
  pub write : (file : ℕ) → s ≢ WriteFault file

-- both were written, or a write failed, and its count rose
pub record WritesTwo {S : Type 0} (disk : Disk S) (words : List (List ℕ)) (first second : ℕ) (text report : List ℕ) (before now : S) (s : Status) : Type 0 where
  pub only : (s ≡ Done) ⊎ ((s ≡ WriteFault first) ⊎ (s ≡ WriteFault second))
  pub both : s ≡ Done → IfSome (disk.held before) (λ files. IsSomeAnd (disk.held now) (λ new. BothStand files new (word_of words first) (word_of words second) text report))
  pub first_cut : s ≡ WriteFault first → IfSome (disk.held before) (λ files. IsSomeAnd (disk.held now) (λ new. IsCutShort files new (word_of words first) text))
  pub second_cut : s ≡ WriteFault second →
      IfSome (disk.held before) (λ files. IsSomeAnd (disk.held now) (λ new. FirstStands files new (word_of words first) (word_of words second) text report))
  pub first_failed : s ≡ WriteFault first → Rose (disk.write_faults before (word_of words first)) (disk.write_faults now (word_of words first))
  pub second_failed : s ≡ WriteFault second → Rose (disk.write_faults before (word_of words second)) (disk.write_faults now (word_of words second))
  pub reads : NoneFalls (disk.read_faults before) (disk.read_faults now)
  pub writes : NoneFalls (disk.write_faults before) (disk.write_faults now)
