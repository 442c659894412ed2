-- The contents that a run along a script read, and that they call for its answer alone.
use Rattle.std.proofs.Common.{◌≡◌, inl, inr, ℕ, zero, suc, ◌<◌, ◌≤◌, Bool, true, false, List, Option, Some, None, refl, sym, subst, arith}
use Rattle.io_edge.specs.Faults.{Files}
use Rattle.command_line.specs.Words.{word_of}
use Rattle.command_line.specs.Answers.{Contents, ForContents, FileHolds, IsFileRefused, IsAnswer, IsCaused}
use Rattle.command_line.specs.Does.{IsTelling}
use Rattle.command_line.specs.Kind.{Kind, IsRead, EndsRead}
use Rattle.command_line.specs.Script.{Act, Script, Way, Along, ends, reads, tests, reads_where, calls_of}
use Rattle.command_line.proofs.Composing.{told_contents, all_told, some_contents, replace, replaced_told}
use Rattle.command_line.proofs.Doing.{IsRefusal}
use Rattle.command_line.specs.declared.status.Status.{Status}

-- ---- what is said along a script
-- by what is said at each step
module _ (way other : Way) (right : (file : ℕ) (k : Kind) (x : k.Value) → way.right file k x → other.right file k x) (stop : (file : ℕ) (k : Kind) → way.stop file k → other.stop file k)
    (fail : (Refuses : Status → Type 0) → way.fail Refuses → other.fail Refuses) (end : (a : Act) → way.end a → other.end a) where
  pub along : (script : Script) → Along way script → Along other script
  along (ends a) h = end a h
  along (reads file k next) (inl h) = inl (stop file k h)
  along (reads file k next) (inr h) = inr (h.0, right file k h.0 h.1, along (next h.0) h.2)
  along (tests Refuses Passes next) (inl h) = inl (fail Refuses h)
  along (tests Refuses Passes next) (inr h) = inr (h.0, along next h.1)

-- where it stops or ends
module _ (way : Way) (P : Type 0) (stop : (file : ℕ) (k : Kind) → way.stop file k → P) (fail : (Refuses : Status → Type 0) → way.fail Refuses → P) (end : (a : Act) → way.end a → P) where
  pub comes : (script : Script) → Along way script → P
  comes (ends a) h = end a h
  comes (reads file k next) (inl h) = stop file k h
  comes (reads file k next) (inr h) = comes (next h.0) h.2
  comes (tests Refuses Passes next) (inl h) = fail Refuses h
  comes (tests Refuses Passes next) (inr h) = comes next h.1

-- ---- scripts whose files come one after the other, go on by what is seen of a file alone, and call for one answer, which tells
-- a test refuses with one status, and nothing that passes
pub record IsTest (Refuses : Status → Type 0) (Passes : Type 0) : Type 0 where
  pub refusal : (s : Status) → Refuses s → IsRefusal s
  pub one : (s t : Status) → Refuses s → Refuses t → t ≡ s
  pub passed : Passes → (s : Status) → ¬ Refuses s

abbrev pub IsRefusedBy : (file : ℕ) → Kind → Type 0
IsRefusedBy file k = (content : Option (List ℕ)) (s : Status) → IsFileRefused k.limit file (k.wrong file) content s → IsRefusal s

abbrev pub IsSound : (least : ℕ) → Script → Type 0
IsSound least (ends a) = (s : Status) → a.calls s → IsTelling s
IsSound least (reads file k next) =
    (least ≤ file) × IsRefusedBy file k × ((y x : k.Value) → k.view y ≡ k.view x → (contents : Contents) (s : Status) → calls_of (next y) contents s → calls_of (next x) contents s)
    × ((x : k.Value) → IsSound (suc file) (next x))
IsSound least (tests Refuses Passes next) = IsTest Refuses Passes × IsSound least next

-- what is called for goes from one script to another
abbrev pub Sees : (script other : Script) → Type 0
Sees script other = (contents : Contents) (s : Status) → calls_of script contents s → calls_of other contents s

pub sees_next : (file : ℕ) (k : Kind) (next other : k.Value → Script) → ((x : k.Value) → Sees (next x) (other x)) → Sees (reads file k next) (reads file k other)
sees_next file k next other h contents s (inl refused) = inl refused
sees_next file k next other h contents s (inr right) = inr (right.0, right.1, h right.0 contents s right.2)

pub sees_where : (asked : Bool) (file : ℕ) (k : Kind) (next other : Option k.Value → Script) → ((o : Option k.Value) → Sees (next o) (other o)) → Sees (reads_where asked file k next) (reads_where asked file k other)
sees_where true file k next other h = sees_next file k (λ x. next (Some x)) (λ x. other (Some x)) (λ x. h (Some x))
sees_where false file k next other h = h None

-- what is seen whole
pub whole : {X : Type 0} (next : X → Script) (y x : X) → y ≡ x → (contents : Contents) (s : Status) → calls_of (next y) contents s → calls_of (next x) contents s
whole {X} next y x same contents s h = subst (λ (z : X). calls_of (next z) contents s) same h

-- a file that is read where it is asked for
pub sound_where : (least : ℕ) (asked : Bool) (file : ℕ) (k : Kind) (next : Option k.Value → Script) → least ≤ file → IsRefusedBy file k →
    ((y x : k.Value) → k.view y ≡ k.view x → (contents : Contents) (s : Status) → calls_of (next (Some y)) contents s → calls_of (next (Some x)) contents s) → ((x : k.Value) → IsSound (suc file) (next (Some x))) →
    IsSound least (next None) → IsSound least (reads_where asked file k next)
sound_where least true file k next low by seen some none = (low, by, seen, some)
sound_where least false file k next low by seen some none = none

-- what it calls for tells
pub sound_telling : (least : ℕ) (script : Script) → IsSound least script → (contents : Contents) (s : Status) → calls_of script contents s → IsTelling s
sound_telling least (ends a) sound contents s h = sound s h
sound_telling least (reads file k next) sound contents s (inl h) = (sound.1 (contents file) s h).telling
sound_telling least (reads file k next) sound contents s (inr h) = sound_telling (suc file) (next h.0) (sound.3 h.0) contents s h.2
sound_telling least (tests Refuses Passes next) sound contents s (inl h) = (sound.0.refusal s h).telling
sound_telling least (tests Refuses Passes next) sound contents s (inr h) = sound_telling least next sound.1 contents s h.1

-- ---- contents
replaced_here : (at : ℕ) (content : Option (List ℕ)) (contents : Contents) → replace at content contents at ≡ content
replaced_here zero content contents = refl
replaced_here (suc at) content contents = replaced_here at content (λ i. contents (suc i))

replaced_later : (at : ℕ) (content : Option (List ℕ)) (contents : Contents) (i : ℕ) → at < i → replace at content contents i ≡ contents i
replaced_later zero content contents zero lt = absurd (omega arith)
replaced_later zero content contents (suc i) lt = refl
replaced_later (suc at) content contents zero lt = refl
replaced_later (suc at) content contents (suc i) lt = replaced_later at content (λ i. contents (suc i)) i (omega arith)

-- ---- one file, by its content
-- it is right for this value, for nothing that is seen otherwise, and refused with no status
pub record IsRightIn (content : Option (List ℕ)) (file : ℕ) (k : Kind) (x : k.Value) : Type 0 where
  pub right : FileHolds k.limit (k.right x) content
  pub one : (y : k.Value) → FileHolds k.limit (k.right y) content → k.view y ≡ k.view x
  pub accepted : (s : Status) → ¬ IsFileRefused k.limit file (k.wrong file) content s

-- it is refused with this status alone, where that has a cause, and right for nothing
pub record IsWrongIn (content : Option (List ℕ)) (s : Status) (file : ℕ) (k : Kind) : Type 0 where
  pub answer : IsCaused s → IsAnswer (IsFileRefused k.limit file (k.wrong file) content) s
  pub refused : IsCaused s → (x : k.Value) → ¬ FileHolds k.limit (k.right x) content

module _ (Stop : ℕ → Kind → Type 0) (Fail : (Status → Type 0) → Type 0) (End : Act → Type 0) (s : Status) where
  -- along a script whose files have these contents
  abbrev pub RunsAt : Script → Contents → Type 0
  RunsAt script contents = Along (record {
    right = λ file k x. IsRightIn (contents file) file k x;
    stop = λ file k. Stop file k × IsRefusedBy file k × IsWrongIn (contents file) s file k;
    fail = λ Refuses. Fail Refuses × IsRefusal s;
    end = End;
  }) script

  -- contents that agree from a position on
  moved : (least : ℕ) (script : Script) → IsSound least script → (a b : Contents) → ((i : ℕ) → least ≤ i → a i ≡ b i) → RunsAt script a → RunsAt script b
  moved least (ends act) sound a b same h = h
  moved least (reads file k next) sound a b same (inl h) = inl (h.0, h.1, subst (λ (o : Option (List ℕ)). IsWrongIn o s file k) (same file sound.0) h.2)
  moved least (reads file k next) sound a b same (inr h) =
      inr (h.0, subst (λ (o : Option (List ℕ)). IsRightIn o file k h.0) (same file sound.0) h.1, moved (suc file) (next h.0) (sound.3 h.0) a b (λ i le. same i (omega (arith, sound.0))) h.2)
  moved least (tests Refuses Passes next) sound a b same (inl h) = inl h
  moved least (tests Refuses Passes next) sound a b same (inr h) = inr (h.0, moved least next sound.1 a b same h.1)

  module _ (words : List (List ℕ)) (held : Option Files) (before now : ℕ → ℕ) (why : (file : ℕ) (k : Kind) → Stop file k → EndsRead k file held (word_of words file) (before file) (now file) s)
      (failed : (Refuses : Status → Type 0) → Fail Refuses → Refuses s) where
    -- a file that ended it
    ended : (file : ℕ) (k : Kind) (next : k.Value → Script) → IsRefusedBy file k → Stop file k → EndsRead k file held (word_of words file) (before file) (now file) s →
        ForContents words held (RunsAt (reads file k next))
    ended file k next by stop (inl memory) =
        some_contents words held _ (λ contents. inl (stop, by, record { answer = λ caused. absurd (caused.memory memory); refused = λ caused. absurd (caused.memory memory) }))
    ended file k next by stop (inr (inl fault)) =
        some_contents words held _ (λ contents. inl (stop, by, record { answer = λ caused. absurd (caused.read file fault.0); refused = λ caused. absurd (caused.read file fault.0) }))
    ended file k next by stop (inr (inr wrong)) =
        let contents = replace file wrong.content (told_contents words held) in
        record {
          contents = contents;
          told = replaced_told words held file wrong.content (told_contents words held) wrong.told (all_told words held);
          true_of =
              inl (
                stop,
                by,
                subst (λ (o : Option (List ℕ)). IsWrongIn o s file k) (sym (replaced_here file wrong.content (told_contents words held)))
                    (record { answer = λ caused. wrong.answer; refused = λ caused. wrong.refused }),
              );
        }

    -- the contents of all files that were read
    pub gathered : (least : ℕ) (script : Script) → IsSound least script → Along (record { right = λ file k x. IsRead k file held (word_of words file) x; stop = Stop; fail = Fail; end = End }) script →
        ForContents words held (RunsAt script)
    gathered least (ends a) sound h = some_contents words held (RunsAt (ends a)) (λ contents. h)
    gathered least (reads file k next) sound (inl stop) = ended file k next sound.1 stop (why file k stop)
    gathered least (reads file k next) sound (inr h) =
        let later = gathered (suc file) (next h.0) (sound.3 h.0) h.2 in
        let read = h.1 in
        let contents = replace file read.content later.contents in
        record {
          contents = contents;
          told = replaced_told words held file read.content later.contents read.told later.told;
          true_of =
              inr (
                h.0,
                subst (λ (o : Option (List ℕ)). IsRightIn o file k h.0) (sym (replaced_here file read.content later.contents)) (record { right = read.right; one = read.one; accepted = read.accepted }),
                moved (suc file) (next h.0) (sound.3 h.0) later.contents contents (λ i le. sym (replaced_later file read.content later.contents i (omega arith))) later.true_of,
              );
        }
    gathered least (tests Refuses Passes next) sound (inl fail) =
        some_contents words held (RunsAt (tests Refuses Passes next)) (λ contents. inl (fail, sound.0.refusal s (failed Refuses fail)))
    gathered least (tests Refuses Passes next) sound (inr h) =
        let later = gathered least next sound.1 h.1 in
        record { contents = later.contents; told = later.told; true_of = inr (h.0, later.true_of) }

  -- they call for the answer, and for no other
  module _ (failed : (Refuses : Status → Type 0) → Fail Refuses → Refuses s) (called : (a : Act) → End a → IsCaused s → IsAnswer a.calls s) where
    pub answers : (least : ℕ) (script : Script) → IsSound least script → (contents : Contents) → RunsAt script contents → IsCaused s → IsAnswer (calls_of script contents) s
    answers least (ends a) sound contents h caused = called a h caused
    answers least (reads file k next) sound contents (inl h) caused = record { called = inl (h.2.answer caused).called; only = go }
      where
        go : (t : Status) → calls_of (reads file k next) contents t → t ≡ s
        go t (inl refused) = (h.2.answer caused).only t refused
        go t (inr right) = absurd (h.2.refused caused right.0 right.1)
    answers least (reads file k next) sound contents (inr h) caused = after (answers (suc file) (next h.0) (sound.3 h.0) contents h.2 caused)
      where
        after : IsAnswer (calls_of (next h.0) contents) s → IsAnswer (calls_of (reads file k next) contents) s
        after later = record { called = inr (h.0, h.1.right, later.called); only = go }
          where
            go : (t : Status) → calls_of (reads file k next) contents t → t ≡ s
            go t (inl refused) = absurd (h.1.accepted t refused)
            go t (inr right) = later.only t (sound.2 right.0 h.0 (h.1.one right.0 right.1) contents t right.2)
    answers least (tests Refuses Passes next) sound contents (inl h) caused = record { called = inl (failed Refuses h.0); only = go }
      where
        go : (t : Status) → calls_of (tests Refuses Passes next) contents t → t ≡ s
        go t (inl refused) = sound.0.one s t (failed Refuses h.0) refused
        go t (inr passed) = absurd (sound.0.passed passed.0 s (failed Refuses h.0))
    answers least (tests Refuses Passes next) sound contents (inr h) caused = after (answers least next sound.1 contents h.1 caused)
      where
        after : IsAnswer (calls_of next contents) s → IsAnswer (calls_of (tests Refuses Passes next) contents) s
        after later = record { called = inr (h.0, later.called); only = go }
          where
            go : (t : Status) → calls_of (tests Refuses Passes next) contents t → t ≡ s
            go t (inl refused) = absurd (sound.0.passed h.0 t refused)
            go t (inr passed) = later.only t passed.1
