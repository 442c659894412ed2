-- A file that is read, and judged by the reader of its text.
use Rattle.std.proofs.Common.{◌≡◌, ◌≢◌, ◌⊎◌, inl, inr, ℕ, ◌+◌, ◌<◌, ◌≤◌, List, length, Option, Some, None, Result, Ok, Err, refl, sym, ap, ◌∙◌, subst, arith, replicate}
use Rattle.std.proofs.lemmas.List.{length-replicate}
use Rattle.std.specs.Prelude.{IfSome, IsSomeAnd, IfOk, IfErr, IsOkAnd, MatchResult}
use Rattle.io_edge.specs.Faults.{Files}
use Rattle.io_edge.specs.declared.store.Store.{Ghosts as Disk}
use Rattle.number_text.specs.declared.text_fault.TextFault.{TextFault}
use Rattle.number_text.specs.declared.text_fault.TextFault.TheVariants.{Memory as no_room}
use Rattle.command_line.specs.Answers.{IsTold, FileHolds, IsLong, IsFileRefused}
use Rattle.command_line.specs.Kind.{Kind, IsRead, IsRefusedWith, EndsRead, Passes, ReadsFile}
use Rattle.command_line.specs.Limit.{file_limit}
use Rattle.command_line.specs.declared.status.Status.{Status}
use Rattle.command_line.specs.declared.status.Status.TheVariants.{Text, Long}
use Rattle.command_design_files.specs.Texts.{TextWrong, TellsBy, IsToldBy}
use Rattle.command_design_files.specs.Reading.{IsUnread}

-- the store holds these bytes under the name, as far as it tells
abbrev pub HeldBytes : Option Files → (name bytes : List ℕ) → Type 0
HeldBytes held name bytes = IfSome held (λ files. files name ≡ Some bytes)

-- and so many that they are too long
abbrev pub LongFile : ℕ → Option Files → List ℕ → Type 0
LongFile limit held name = IfSome held (λ files. IsSomeAnd (files name) (λ bytes. limit < length bytes))

told_bytes : (held : Option Files) (name bytes : List ℕ) → HeldBytes held name bytes → IsTold held name (Some bytes)
told_bytes (Some files) name bytes is = sym is
told_bytes None name bytes is = tt

-- ---- a file that is too long
too_long : (k : Kind) (file : ℕ) (held : Option Files) (name bytes : List ℕ) → k.limit < length bytes → IsTold held name (Some bytes) → IsRefusedWith k file held name (Long file)
too_long k file held name bytes longer told = record {
  content = Some bytes;
  told = told;
  answer = record { called = inl (record { bytes = bytes; held = refl; longer = longer; is = refl }); only = only };
  refused = λ x. clash (k.right x);
}
  where
    clash : (Right : List ℕ → Type 0) → FileHolds k.limit Right (Some bytes) → ⊥
    clash Right holds = let same : bytes ≡ holds.bytes = cc holds.held in omega (arith, longer, holds.short, ap length same)

    only : (t : Status) → IsFileRefused k.limit file (k.wrong file) (Some bytes) t → t ≡ Long file
    only t (inl far) = far.is
    only t (inr holds) = absurd (clash (λ b. k.wrong file b t) holds)

-- where a store tells nothing, some file is
long_refused : (k : Kind) (file : ℕ) (held : Option Files) (name : List ℕ) → LongFile k.limit held name → IsRefusedWith k file held name (Long file)
long_refused k file (Some files) name long = go (files name) refl long
  where
    go : (o : Option (List ℕ)) → files name ≡ o → IsSomeAnd o (λ bytes. k.limit < length bytes) → IsRefusedWith k file (Some files) name (Long file)
    go (Some bytes) is longer = too_long k file (Some files) name bytes longer (sym is)
    go None is far = absurd far
long_refused k file None name long = too_long k file None name (replicate (k.limit + 1) 0) (omega (arith, length-replicate {A = ℕ} (k.limit + 1) 0)) tt

ends_unread : (k : Kind) (file : ℕ) (held : Option Files) (name : List ℕ) (before now : ℕ) (e : Status) → IsUnread k.limit file held name before now e → EndsRead k file held name before now e
ends_unread k file held name before now e (inl memory) = inl memory
ends_unread k file held name before now e (inr (inl fault)) = inr (inl fault)
ends_unread k file held name before now e (inr (inr far)) = inr (inr (subst (IsRefusedWith k file held name) (sym far.0) (long_refused k file held name far.1)))

module _ {S X : Type 0} {disk : Disk S} {k : Kind} {file : ℕ} {name : List ℕ} {seen : X → k.Value} {before now : S} where
  pub unread : (e : Status) → IsUnread k.limit file (disk.held before) name (disk.read_faults before name) (disk.read_faults now name) e → Passes disk before now →
      ReadsFile disk k file name seen (Err e) before now
  unread e why passes = record { right = tt; ends = ends_unread k file (disk.held before) name _ _ e why; passes = passes }

-- ---- bytes within the limit
here_only : (limit : ℕ) (bytes : List ℕ) (P : List ℕ → Type 0) → FileHolds limit P (Some bytes) → P bytes
here_only limit bytes P holds = let same : holds.bytes ≡ bytes = cc holds.held in subst P same holds.right

not_long : (limit file : ℕ) (bytes : List ℕ) (s : Status) → length bytes ≤ limit → IsLong limit file (Some bytes) s → ⊥
not_long limit file bytes s short far = let same : far.bytes ≡ bytes = cc far.held in omega (arith, short, far.longer, ap length same)

module _ {k : Kind} {file : ℕ} {held : Option Files} {name : List ℕ} (bytes : List ℕ) (known : HeldBytes held name bytes) (short : length bytes ≤ k.limit) where
  pub right_bytes : (x : k.Value) → k.right x bytes → ((y : k.Value) → k.right y bytes → k.view y ≡ k.view x) → ((s : Status) → ¬ k.wrong file bytes s) → IsRead k file held name x
  right_bytes x right one none = record {
    content = Some bytes;
    told = told_bytes held name bytes known;
    right = record { bytes = bytes; held = refl; short = short; right = right };
    one = λ y holds. one y (here_only k.limit bytes (k.right y) holds);
    accepted = λ s refused. elim refused [ inl far ↦ not_long k.limit file bytes s short far | inr holds ↦ none s (here_only k.limit bytes (λ b. k.wrong file b s) holds) ];
  }

  pub wrong_bytes : (s : Status) → k.wrong file bytes s → ((t : Status) → k.wrong file bytes t → t ≡ s) → ((x : k.Value) → ¬ k.right x bytes) → IsRefusedWith k file held name s
  wrong_bytes s wrong one none = record {
    content = Some bytes;
    told = told_bytes held name bytes known;
    answer = record {
      called = inr (record { bytes = bytes; held = refl; short = short; right = wrong });
      only = λ t refused. elim refused [ inl far ↦ absurd (not_long k.limit file bytes t short far) | inr holds ↦ one t (here_only k.limit bytes (λ b. k.wrong file b t) holds) ];
    };
    refused = λ x holds. none x (here_only k.limit bytes (k.right x) holds);
  }

-- ---- bytes that are judged by the reader of a text
-- such files are refused for a fault of their bytes, where that isn't out of memory, with the status that tells it
pub record IsToldIn (k : Kind) {F : Type 0} (none : F) (tell : ℕ → F → Status) (Fault : List ℕ → F → Type 0) : Type 0 where
  pub says : (file : ℕ) (bytes : List ℕ) (fault : F) → fault ≢ none → Fault bytes fault → k.wrong file bytes (tell file fault)
  pub said : (file : ℕ) (bytes : List ℕ) (s : Status) → k.wrong file bytes s → (fault : F) × Fault bytes fault × (s ≡ tell file fault)

pub text_told : {X V : Type 0} {view : X → V} {Right : X → List ℕ → Type 0} {Fault : List ℕ → TextFault → Type 0} →
    IsToldIn (record { Value = X; Seen = V; view = view; limit = file_limit; right = Right; wrong = TextWrong Fault }) no_room Text Fault
text_told = record { says = λ file bytes fault some is. (fault, is, (some, refl)); said = λ file bytes s why. (why.0, why.1, why.2.1) }

-- what the reader of a text says of the bytes, both ways
pub record IsJudged (k : Kind) {T F : Type 0} (Fault : List ℕ → F → Type 0) (none : F) (seen : T → k.Value) (bytes : List ℕ) (p : Result T F) : Type 0 where
  pub found : IfOk p (λ x. k.right (seen x) bytes)
  pub fault : IfErr p (λ e. (e ≡ none) ⊎ Fault bytes e)
  pub right : (y : k.Value) → k.right y bytes → MatchResult p (λ x. k.view (seen x) ≡ k.view y) (λ e. e ≡ none)
  pub first : (other : F) → Fault bytes other → MatchResult p (λ x. ⊥) (λ e. (e ≡ other) ⊎ (e ≡ none))

module _ {S F : Type 0} {disk : Disk S} {k : Kind} {file : ℕ} {name : List ℕ} {none : F} {tell : ℕ → F → Status} {Fault : List ℕ → F → Type 0} {before now : S} (by : IsToldIn k none tell Fault)
    (bytes : List ℕ) (known : HeldBytes (disk.held before) name bytes) (short : length bytes ≤ k.limit) (passes : Passes disk before now) where
  -- a fault that isn't out of memory
  faulty : (fault : F) (s : Status) → s ≡ tell file fault → fault ≢ none → Fault bytes fault → ((other : F) → Fault bytes other → (fault ≡ other) ⊎ (fault ≡ none)) → ((x : k.Value) → k.right x bytes → fault ≡ none) →
      IsRefusedWith k file (disk.held before) name s
  faulty fault s told some is first refused =
      wrong_bytes bytes known short s (subst (k.wrong file bytes) (sym told) (by.says file bytes fault some is)) only (λ x right. some (refused x right))
    where
      same : (other : F) (t : Status) → t ≡ tell file other → (fault ≡ other) ⊎ (fault ≡ none) → t ≡ s
      same other t its (inl is) = its ∙ ap (tell file) (sym is) ∙ sym told
      same other t its (inr memory) = absurd (some memory)

      only : (t : Status) → k.wrong file bytes t → t ≡ s
      only t wrong = let why = by.said file bytes t wrong in same why.0 t why.2 (first why.0 why.1)

  ended : (fault : F) (s : Status) → TellsBy none (tell file) fault s → (fault ≡ none) ⊎ Fault bytes fault → ((other : F) → Fault bytes other → (fault ≡ other) ⊎ (fault ≡ none)) →
      ((x : k.Value) → k.right x bytes → fault ≡ none) → EndsRead k file (disk.held before) name (disk.read_faults before name) (disk.read_faults now name) s
  ended fault s (inl memory) is first refused = inl memory.0
  ended fault s (inr known_fault) (inl memory) first refused = absurd (known_fault.1 memory)
  ended fault s (inr known_fault) (inr is) first refused = inr (inr (faulty fault s known_fault.0 known_fault.1 is first refused))

  pub judged : {T : Type 0} {seen : T → k.Value} (p : Result T F) (r : Result T Status) → IsToldBy (TellsBy none (tell file)) p r → IsJudged k Fault none seen bytes p → ReadsFile disk k file name seen r before now
  judged {T} {seen} (Ok x) (Ok y) told is = subst (λ (t : T). ReadsFile disk k file name seen (Ok t) before now) (let same : x ≡ y = cc in same) (record {
    right = right_bytes bytes known short (seen x) is.found (λ y right. sym (is.right y right)) (λ s wrong. let why = by.said file bytes s wrong in is.first why.0 why.1);
    ends = tt;
    passes = passes;
  })
  judged (Ok x) (Err e) told is = absurd (let never : ⊥ = cc in never)
  judged (Err fault) (Ok y) told is = absurd told
  judged (Err fault) (Err e) told is = record { right = tt; ends = ended fault e told is.fault is.first is.right; passes = passes }

-- what else is known of what was read
pub still : {T F : Type 0} (Tells : F → Status → Type 0) (P : T → Type 0) (p : Result T F) (r : Result T Status) → IsToldBy Tells p r → IfOk p P → IfOk r P
still Tells P (Ok x) r told is = rw told is
still Tells P (Err fault) (Ok y) told is = absurd told
still Tells P (Err fault) (Err e) told is = tt

-- ---- what a reader says both ways
-- an answer that is no error
pub ok_never : {D E : Type 0} (d : D) (e other : E) → (Ok d ≡ Err e) ⊎ (Ok d ≡ Err other) → ⊥
ok_never d e other (inl never) = cc
ok_never d e other (inr never) = cc

-- two errors are the same answer
abbrev pub AreSame : (D E : Type 0) → E → E → Type 0
AreSame D E fault other = ◌≡◌ {A = Result D E} (Err fault) (Err other)

-- a value that is right, or out of memory
pub right_or : {D E : Type 0} {none : E} (P : D → Type 0) (p : Result D E) → (p ≡ Err none) ⊎ IsOkAnd p P → MatchResult p P (λ e. e ≡ none)
right_or P (Ok d) (inl other) = absurd (let never : ⊥ = cc in never)
right_or P (Ok d) (inr is) = is
right_or P (Err e) (inl is) = cc
right_or P (Err e) (inr never) = absurd never

-- a fault that is the first, or out of memory
pub fault_or : {D E : Type 0} {none other : E} (p : Result D E) → (p ≡ Err none) ⊎ (p ≡ Err other) → MatchResult p (λ d. ⊥) (λ e. (e ≡ other) ⊎ (e ≡ none))
fault_or (Ok d) (inl never) = cc
fault_or (Ok d) (inr never) = cc
fault_or (Err e) (inl is) = inr cc
fault_or (Err e) (inr is) = inl cc
