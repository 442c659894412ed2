-- A kind of file: which bytes are right for what, and with which status others are refused.
use Rattle.std.specs.Prelude.{◌≡◌, ◌⊎◌, ℕ, Bool, true, false, List, Option, None, Result, Ok, IfOk, IfErr, IsSomeAnd}
use Rattle.io_edge.specs.Faults.{Files, Rose, NoneFalls}
use Rattle.io_edge.specs.declared.store.Store.{Ghosts as Disk}
use Rattle.command_line.specs.Answers.{IsTold, FileHolds, IsFileRefused, IsAnswer}
use Rattle.command_line.specs.declared.status.Status.{Status}
use Rattle.command_line.specs.declared.status.Status.TheVariants.{Memory, ReadFault}

pub record Kind : Type 1 where
  -- what such a file tells of
  pub Value : Type 0
  -- and what is seen of it: two values of one file are seen alike
  pub Seen : Type 0
  pub view : Value → Seen
  -- the most bytes of such a file
  pub limit : ℕ
  -- the bytes are right for this value
  pub right : Value → List ℕ → Type 0
  -- the bytes, of the file at a position, are refused with this status
  pub wrong : (file : ℕ) → List ℕ → Status → Type 0

-- a kind whose values are seen whole
abbrev pub whole_kind : {X : Type 0} → ℕ → (X → List ℕ → Type 0) → (ℕ → List ℕ → Status → Type 0) → Kind
whole_kind {X} limit right wrong = record { Value = X; Seen = X; view = λ x. x; limit = limit; right = right; wrong = wrong }

-- the file at a position is read, and right for this value; it is right for nothing that is seen otherwise, and refused with no status
pub record IsRead (k : Kind) (file : ℕ) (held : Option Files) (name : List ℕ) (x : k.Value) : Type 0 where
  pub content : Option (List ℕ)
  pub told : IsTold held name content
  pub right : FileHolds k.limit (k.right x) content
  pub one : (y : k.Value) → FileHolds k.limit (k.right y) content → k.view y ≡ k.view x
  pub accepted : (s : Status) → ¬ IsFileRefused k.limit file (k.wrong file) content s

-- it is refused with this status, and no other, and right for nothing
pub record IsRefusedWith (k : Kind) (file : ℕ) (held : Option Files) (name : List ℕ) (s : Status) : Type 0 where
  pub content : Option (List ℕ)
  pub told : IsTold held name content
  pub answer : IsAnswer (IsFileRefused k.limit file (k.wrong file) content) s
  pub refused : (x : k.Value) → ¬ FileHolds k.limit (k.right x) content

-- the status ends its reading: out of memory, or the read failed, or it is refused
abbrev pub EndsRead : (k : Kind) (file : ℕ) → Option Files → (name : List ℕ) → (before now : ℕ) → Status → Type 0
EndsRead k file held name before now s = (s ≡ Memory) ⊎ (((s ≡ ReadFault file) × Rose before now) ⊎ IsRefusedWith k file held name s)

-- reads alone came before: the store tells what it told, and no count fell
pub record Passes {S : Type 0} (disk : Disk S) (before now : S) : Type 0 where
  pub held : disk.held now ≡ disk.held before
  pub reads : NoneFalls (disk.read_faults before) (disk.read_faults now)
  pub writes : NoneFalls (disk.write_faults before) (disk.write_faults now)

-- a reader of the file at a position gave what the file is right for, as it is seen, or the status that ends the run; and reads alone came
pub record ReadsFile {S X : Type 0} (disk : Disk S) (k : Kind) (file : ℕ) (name : List ℕ) (seen : X → k.Value) (r : Result X Status) (before now : S) : Type 0 where
  pub right : IfOk r (λ x. IsRead k file (disk.held before) name (seen x))
  pub ends : IfErr r (EndsRead k file (disk.held before) name (disk.read_faults before name) (disk.read_faults now name))
  pub passes : Passes disk before now

-- the same of a file that is read where it is asked for; else nothing was done
abbrev pub ReadsWhere : {S X : Type 0} (disk : Disk S) (asked : Bool) (k : Kind) (file : ℕ) (name : List ℕ) (seen : X → k.Value) → Result (Option X) Status → (before now : S) → Type 0
ReadsWhere disk true k file name seen r before now =
    IfOk r (λ o. IsSomeAnd o (λ x. IsRead k file (disk.held before) name (seen x))) ×
    IfErr r (EndsRead k file (disk.held before) name (disk.read_faults before name) (disk.read_faults now name)) × Passes disk before now
ReadsWhere disk false k file name seen r before now = (r ≡ Ok None) × (now ≡ before)
