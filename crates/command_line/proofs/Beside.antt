-- A command that prints nothing, beside any output.
use Rattle.std.proofs.Common.{inl, inr, refl, List, ℕ, Bool, true, false, Option, Some, None, le_refl}
use Rattle.io_edge.specs.Faults.{Files}
use Rattle.io_edge.specs.declared.store.Store.{Ghosts as Disk}
use Rattle.io_edge.specs.declared.sink.Sink.{Ghosts as Screen}
use Rattle.command_line.specs.Answers.{Contents, ForContents}
use Rattle.command_line.specs.Script.{Script, ends, reads, tests, reads_where, IsNothing, shows_of, leaves_at, Work, deeds_of_work}
use Rattle.command_line.specs.Does.{Does, DoesInStore}
use Rattle.command_line.specs.Kind.{Kind}
use Rattle.command_line.proofs.Composing.{weaker}
use Rattle.command_line.proofs.Doing.{unshown}
use Rattle.command_line.specs.declared.status.Status.{Status}

-- the output is as it was, whatever is done once the files are read
abbrev pub IsSilent : Script → Type 0
IsSilent (ends a) = (s : Status) (old : List ℕ) → a.shows s old old
IsSilent (reads file k next) = (x : k.Value) → IsSilent (next x)
IsSilent (tests Refuses Passes next) = IsSilent next

pub silent_where : (asked : Bool) (file : ℕ) (k : Kind) (next : Option k.Value → Script) → ((o : Option k.Value) → IsSilent (next o)) → IsSilent (reads_where asked file k next)
silent_where true file k next h = λ x. h (Some x)
silent_where false file k next h = h None

module _ (contents : Contents) (words : List (List ℕ)) (s : Status) (held now : Option Files) (old : List ℕ) where
  nothing : {Why : Type 0} → IsNothing Why s held now → IsNothing Why s old old
  nothing none = record { done = none.done; write = none.write; why = none.why; same = refl }

  shown : (script : Script) → IsSilent script → leaves_at script contents words s held now → shows_of script contents s old old
  shown (ends a) silent h = silent s old
  shown (reads file k next) silent (inl none) = inl (nothing none)
  shown (reads file k next) silent (inr h) = inr (h.0, h.1, shown (next h.0) (silent h.0) h.2)
  shown (tests Refuses Passes next) silent (inl none) = inl (nothing none)
  shown (tests Refuses Passes next) silent (inr h) = inr (h.0, shown next silent h.1)

pub beside : {S O : Type 0} (disk : Disk S) (screen : Screen O) (words : List (List ℕ)) (w : Work) → ¬ w.prints → IsSilent w.script → (before now : S) (out : O) (s : Status) →
    DoesInStore disk words (deeds_of_work w) before now s → Does disk screen words (deeds_of_work w) before now out out s
beside disk screen words w never silent before now out s does = record {
  called = does.called;
  telling = does.telling;
  complete = λ t for_t none. does.complete t for_t (record { reads = none.reads; writes = none.writes; output = λ prints. absurd (never prints) });
  read_fault = does.read_fault;
  write_fault = λ file is.
      let found = does.write_fault file is in
      (found.0, elim found.1 [ inl printed ↦ absurd (never printed.1) | inr written ↦ inr written ]);
  shows =
      unshown (screen.got out) (λ old new. ForContents words (disk.held before) (λ contents. shows_of w.script contents s old new))
      (λ old. weaker words (disk.held before) _ _ (λ contents h. shown contents words s (disk.held before) (disk.held now) old w.script silent h) does.leaves);
  quiet = λ unprinted. refl;
  leaves = does.leaves;
  held = does.held;
  unused = does.unused;
  reads = does.reads;
  writes = does.writes;
  no_fewer = le_refl (screen.faults out);
}
