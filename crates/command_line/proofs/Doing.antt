-- What a run does, from less: that it doesn't give up, and what its answer doesn't say, follow from what is called for and from the faults.
use Rattle.std.proofs.Common.{◌≡◌, ◌≢◌, ◌⊎◌, inl, inr, ℕ, ◌<◌, List, Option, Some, None, refl, sym, ap, le_refl, arith}
use Rattle.std.specs.Prelude.{IfSome, IsSomeAnd}
use Rattle.io_edge.specs.Faults.{Files, Rose, NoneFalls}
use Rattle.command_line.specs.Words.{word_of}
use Rattle.command_line.specs.Answers.{Contents, ForContents, IsAnswer, IsCaused}
use Rattle.command_line.specs.Deeds.{Deeds, IsCalledFor, WriteFailed, NoneRises}
use Rattle.command_line.specs.Does.{IsTelling}
use Rattle.command_line.specs.declared.status.Status.{Status}
use Rattle.command_line.specs.declared.status.Status.TheVariants.{Done, Memory, Usage, ReadFault, WriteFault, Text, Controller}
use Rattle.number_text.specs.declared.text_fault.TextFault.TheVariants.{Memory as no_room}
use Rattle.controller_text.specs.declared.bad_controller.BadController.TheVariants.{Memory as no_space}

-- ---- what an answer is
pub data Cause : Status → Type 0 where
  memory : Cause Memory
  read : (file : ℕ) → Cause (ReadFault file)
  write : (file : ℕ) → Cause (WriteFault file)
  caused : (s : Status) → IsCaused s → Cause s

pub cause : (s : Status) → Cause s
cause Memory = memory
cause (ReadFault file) = read file
cause (WriteFault file) = write file
cause s = caused s (record { memory = λ e. cc; read = λ file e. cc; write = λ file e. cc })

-- ---- what tells
pub done_telling : (s : Status) → s ≡ Done → IsTelling s
done_telling s is = record { usage = λ e. cc; text = λ at e. cc; controller = λ at e. cc }

-- neither done, nor out of memory, nor a fault; and it tells
pub record IsRefusal (s : Status) : Type 0 where
  pub done : s ≢ Done
  pub memory : s ≢ Memory
  pub read : (file : ℕ) → s ≢ ReadFault file
  pub write : (file : ℕ) → s ≢ WriteFault file
  pub telling : IsTelling s

-- which of these an answer is: 0 is a refusal
abbrev pub sort_of : Status → ℕ
sort_of Done = 1
sort_of Memory = 2
sort_of (ReadFault file) = 3
sort_of (WriteFault file) = 4
sort_of Usage = 5
sort_of (Text file no_room) = 5
sort_of (Controller file no_space) = 5
sort_of s = 0

pub plain_refusal : (s : Status) → sort_of s ≡ 0 → IsRefusal s
plain_refusal s is = record {
  done = λ e. apart Done (omega arith) e;
  memory = λ e. apart Memory (omega arith) e;
  read = λ file e. apart (ReadFault file) (omega arith) e;
  write = λ file e. apart (WriteFault file) (omega arith) e;
  telling = record { usage = λ e. apart Usage (omega arith) e; text = λ file e. apart (Text file no_room) (omega arith) e; controller = λ file e. apart (Controller file no_space) (omega arith) e };
}
  where
    apart : (other : Status) → 0 < sort_of other → s ≢ other
    apart other some same = omega (arith, some, is, ap sort_of same)

-- ---- a row of the table of commands: what it reaches it reads, and what it calls for tells
pub record IsRow (deeds : Deeds) : Type 0 where
  pub reached : (contents : Contents) (file : ℕ) → deeds.reaches contents file → deeds.reads file
  pub telling : (contents : Contents) (s : Status) → deeds.calls contents s → IsTelling s

-- ---- what follows for each answer
module _ (deeds : Deeds) (row : IsRow deeds) (words : List (List ℕ)) (held : Option Files) (result : Status) (called : IsCaused result → ForContents words held (λ contents. IsAnswer (deeds.calls contents) result)) where
  -- it tells
  pub telling : IsTelling result
  telling = by (cause result) (λ h. let answer = called h in row.telling answer.contents result answer.true_of.called)
    where
      by : {s : Status} → Cause s → (IsCaused s → IsTelling s) → IsTelling s
      by memory told = record { usage = λ e. cc; text = λ at e. cc; controller = λ at e. cc }
      by (read file) told = record { usage = λ e. cc; text = λ at e. cc; controller = λ at e. cc }
      by (write file) told = record { usage = λ e. cc; text = λ at e. cc; controller = λ at e. cc }
      by (caused s h) told = told h

  -- the command didn't give up
  module _ (rb rn wb wn : List ℕ → ℕ) (pb pn : ℕ) where
    no_write : (file : ℕ) → NoneRises deeds words rb rn wb wn pb pn → WriteFailed deeds words file wb wn pb pn → ⊥
    no_write file none (inl a) = none.output a.1 a.2
    no_write file none (inr a) = none.writes file a.0 a.1

    pub complete : ((file : ℕ) → result ≡ ReadFault file → ForContents words held (λ contents. deeds.reaches contents file) × Rose (rb (word_of words file)) (rn (word_of words file))) →
        ((file : ℕ) → result ≡ WriteFault file → ForContents words held deeds.starts × WriteFailed deeds words file wb wn pb pn) →
        (s : Status) → IsCalledFor deeds words held s → NoneRises deeds words rb rn wb wn pb pn → (result ≡ s) ⊎ (result ≡ Memory)
    complete read_fault write_fault s for_s none = by (cause result) refl
      where
        by : {r : Status} → Cause r → result ≡ r → (result ≡ s) ⊎ (result ≡ Memory)
        by memory is = inr is
        by (read file) is =
            let fault = read_fault file is in
            absurd (none.reads file (row.reached fault.0.contents file fault.0.true_of) fault.1)
        by (write file) is = absurd (no_write file none (write_fault file is).1)
        by (caused r h) is =
            let answer = called (rw is h) in
            inl (sym (answer.true_of.only s (for_s answer.contents answer.told)))

-- ---- what an output has that got nothing
pub unshown : (got : Option (List ℕ)) (P : (old new : List ℕ) → Type 0) → ((old : List ℕ) → P old old) → IfSome got (λ old. IsSomeAnd got (P old))
unshown (Some old) P h = h old
unshown None P h = tt

-- counts that stand still
pub none_falls : (counts : List ℕ → ℕ) → NoneFalls counts counts
none_falls counts = record { each = λ name. le_refl (counts name) }
