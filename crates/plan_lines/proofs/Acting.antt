-- What a command does that prints the lines of records.
use Rattle.std.proofs.Common.{◌≡◌, ◌≢◌, ◌⊎◌, inl, inr, ℕ, zero, suc, ◌<◌, ◌≤◌, ◌+◌, ◌∙◌, ℤ, List, ◌++◌, length, option_map, refl, sym, ap, subst, arith}
use Rattle.std.specs.Prelude.{IfSome, IsSomeAnd}
use Rattle.std.proofs.lemmas.Bool.{cases_order}
use Rattle.io_edge.specs.Faults.{GrowsByPart}
use Rattle.io_edge.specs.declared.sink.Sink.{Ghosts as Screen}
use Rattle.mat_int.specs.Matrix.{Matrix, row_of}
use Rattle.command_line.specs.Answers.{IsAnswer}
use Rattle.command_line.specs.Deeds.{Deeds}
use Rattle.command_line.specs.Script.{Act, IsNothing}
use Rattle.command_line.specs.Does.{IsTelling, Prints}
use Rattle.command_line.proofs.Doing.{IsRefusal, done_telling}
use Rattle.command_line.proofs.Results.{both_some}
use Rattle.command_line.proofs.Following.{nothing_printed}
use Rattle.command_line.specs.declared.status.Status.{Status}
use Rattle.command_line.specs.declared.status.Status.TheVariants.{Done, Memory, WriteFault, OutsideBox}
use Rattle.plan_lines.specs.Inside.{AreHeld, IsFirstOut}
use Rattle.plan_lines.specs.Lines.{AreLinesOf}
use Rattle.plan_lines.specs.Making.{Making, AreRunFrom, IsRefusedFirst, Ending, all, short, cut, stopped, PrintsLines, PrintsRecords}
use Rattle.plan_lines.specs.Printing.{Lines, AreLinesPrinted, LinesShow, lines_act}
use Rattle.plan_lines.proofs.LineByLine.{mapped}

-- no state both lies in the box and has a coordinate outside, and it has one first
pub record IsJudged (Held : ℕ → Type 0) (Out : (e coordinate : ℕ) → Type 0) : Type 0 where
  pub none : (e k : ℕ) → Out e k → ¬ Held e
  pub one : (e j k : ℕ) → Out e j → Out e k → j ≡ k

module _ {Held : ℕ → Type 0} {Out : (e coordinate : ℕ) → Type 0} (judged : IsJudged Held Out) (rows : ℕ) where
  pub one_out : (s t : Status) → IsFirstOut Held Out rows s → IsFirstOut Held Out rows t → t ≡ s
  one_out s t a b =
      b.is ∙ ap (λ (i : ℕ). OutsideBox (i + 1) 0 b.coordinate) (sym same)
      ∙ ap (λ (k : ℕ). OutsideBox (a.index + 1) 0 k) (judged.one a.index b.coordinate a.coordinate (subst (λ (i : ℕ). Out i b.coordinate) (sym same) b.here) a.here) ∙ sym a.is
    where
      same : a.index ≡ b.index
      same = elim (cases_order a.index b.index) [
        | inl e ↦ e
        | inr (inl lt) ↦ absurd (judged.none a.index a.coordinate a.here (b.before a.index lt))
        | inr (inr gt) ↦ absurd (judged.none b.index b.coordinate b.here (a.before b.index gt))
      ]

  pub not_held : (s : Status) → IsFirstOut Held Out rows s → AreHeld Held rows → ⊥
  not_held s out held = judged.none out.index out.coordinate out.here (held out.index out.there)

  one_call : (s t : Status) → IsFirstOut Held Out rows s ⊎ ((s ≡ Done) × AreHeld Held rows) → IsFirstOut Held Out rows t ⊎ ((t ≡ Done) × AreHeld Held rows) → t ≡ s
  one_call s t (inl a) (inl b) = one_out s t a b
  one_call s t (inl a) (inr b) = absurd (not_held s a b.1)
  one_call s t (inr a) (inl b) = absurd (not_held t b a.1)
  one_call s t (inr a) (inr b) = b.0 ∙ sym a.0

-- ---- what a command says of the ways in which lines end
pub record IsToldBy (p : Making) (m : Matrix) (tells : Status → Type 0) (a : Act) : Type 0 where
  pub one : (s t : Status) → a.calls s → a.calls t → t ≡ s
  pub refused : (s : Status) → IsRefusedFirst p m s → a.calls s
  pub silent : (s : Status) → (s ≡ Memory) ⊎ IsRefusedFirst p m s → (old : List ℕ) → a.shows s old old
  pub all : (text : List ℕ) → AreRunFrom p m (length m.rows) → AreLinesOf p.line m (length m.rows) text → a.calls Done × ((old : List ℕ) → a.shows Done old (old ++ text))
  pub short : (k : ℕ) (text : List ℕ) → k ≤ length m.rows → AreRunFrom p m (length m.rows) → AreLinesOf p.line m k text → (old : List ℕ) → a.shows Memory old (old ++ text)
  pub cut : (k : ℕ) (text : List ℕ) → k ≤ length m.rows → 0 < k → AreRunFrom p m (length m.rows) → AreLinesOf p.line m k text →
      a.starts × ((old new : List ℕ) → GrowsByPart old new text → a.shows (WriteFault 0) old new)
  pub stopped : (k : ℕ) (text : List ℕ) (s : Status) → k < length m.rows → AreRunFrom p m (length m.rows) → AreLinesOf p.line m k text → p.stops (k + 1) (row_of m k) s →
      IsRefusal s × a.calls s × ((old : List ℕ) → a.shows s old (old ++ text)) × (0 < k → tells s)

none_before : (n : ℕ) → (0 < n → ⊥) → n ≡ 0
none_before zero none = refl
none_before (suc n) none = absurd (none (omega arith))

module _ {p : Making} {m : Matrix} {a : Act} (deeds : Deeds) (told : IsToldBy p m deeds.tells a) {O : Type 0} (screen : Screen O) where
  answer : (s : Status) → a.calls s → IsAnswer a.calls s
  answer s call = record { called = call; only = λ t other. told.one s t call other }

  -- the machine doesn't run from a state, or there is no memory to see
  nothing : (out : O) (s : Status) → (s ≡ Memory) ⊎ IsRefusedFirst p m s → Prints screen deeds out out s a
  nothing out s (inl is) = nothing_printed (λ caused. absurd (caused.memory is)) (λ file e. cc) (λ file e. cc) (told.silent s (inl is))
  nothing out s (inr refused) = let is = refused.is in nothing_printed (λ caused. answer s (told.refused s refused)) (λ file e. cc) (λ file e. cc) (told.silent s (inr refused))

  -- it runs from all of them
  module _ (out now : O) (run : AreRunFrom p m (length m.rows)) (no_fewer : screen.faults out ≤ screen.faults now) (k : ℕ) (text : List ℕ) (within : k ≤ length m.rows) (are : AreLinesOf p.line m k text) where
    shown : (s : Status) → screen.got now ≡ option_map (λ old. old ++ text) (screen.got out) → ((old : List ℕ) → a.shows s old (old ++ text)) → IfSome (screen.got out) (λ old. IsSomeAnd (screen.got now) (a.shows s old))
    shown s = mapped (a.shows s) (λ old. old ++ text) (screen.got out) (screen.got now)

    ended : (s : Status) → Ending screen p m out now k text s → Prints screen deeds out now s a
    ended _ (all whole got) =
        let did = told.all text run (subst (λ (n : ℕ). AreLinesOf p.line m n text) whole are) in
        record {
          called = λ caused. answer Done did.0;
          read_fault = λ file e. cc;
          write_fault = λ file e. absurd (let never : ⊥ = cc in never);
          shows = shown Done got did.1;
          quiet = λ earlier. absurd (earlier.done refl);
          no_fewer = no_fewer;
        }
    ended _ (short got) = record {
      called = λ caused. absurd (caused.memory refl);
      read_fault = λ file e. cc;
      write_fault = λ file e. absurd (let never : ⊥ = cc in never);
      shows = shown Memory got (told.short k text within run are);
      quiet = λ earlier. absurd (earlier.memory refl);
      no_fewer = no_fewer;
    }
    ended _ (cut some got rose) =
        let did = told.cut k text within some run are in
        record {
          called = λ caused. absurd (caused.write 0 refl);
          read_fault = λ file e. cc;
          write_fault = λ file e. (let same : file ≡ 0 = cc in same, did.0, rose);
          shows = both_some (λ old new. GrowsByPart old new text) (a.shows (WriteFault 0)) did.1 (screen.got out) (screen.got now) got;
          quiet = λ earlier. absurd (earlier.fault refl);
          no_fewer = no_fewer;
        }
    ended s (stopped lt stops got first) =
        let did = told.stopped k text s lt run are stops in
        record {
          called = λ caused. answer s did.1;
          read_fault = did.0.read;
          write_fault = λ file is. absurd (did.0.write file is);
          shows = shown s got did.2;
          quiet = λ earlier. first (none_before k (λ some. earlier.silent (did.3 some)));
          no_fewer = no_fewer;
        }

  pub lines_ended : (out now : O) (s : Status) → AreRunFrom p m (length m.rows) → PrintsLines screen p m out now s → Prints screen deeds out now s a
  lines_ended out now s run l = ended out now run l.no_fewer l.count l.text l.within l.lines s l.ending

  pub records_ended : (out now : O) (s : Status) → PrintsRecords screen p m out now s → Prints screen deeds out now s a
  records_ended out now s (inl why) = subst (λ (o : O). Prints screen deeds out o s a) (sym why.1) (nothing out s why.0)
  records_ended out now s (inr l) = lines_ended out now s l.0 l.1

-- ---- of a machine whose runs all have a line
-- what is said of its lines
pub record AreToldAs (p : Making) (m : Matrix) (lines : Lines) : Type 0 where
  pub judged : IsJudged (λ e. p.holds (row_of m e)) (λ e. p.outside (row_of m e))
  pub never : (entry : ℕ) (xi : List ℤ) (s : Status) → p.stops entry xi s → ⊥
  pub whole : (text : List ℕ) → AreLinesOf p.line m (length m.rows) text → (old : List ℕ) → lines.all old (old ++ text)
  pub part : AreRunFrom p m (length m.rows) → (k : ℕ) (text : List ℕ) → k ≤ length m.rows → AreLinesOf p.line m k text → (old new : List ℕ) → GrowsByPart old new text → lines.part old new
  pub some : (k : ℕ) (text : List ℕ) → k ≤ length m.rows → AreLinesOf p.line m k text → (old : List ℕ) → lines.some old (old ++ text)

module _ (p : Making) (m : Matrix) (lines : Lines) (told : AreToldAs p m lines) where
  silent : (s : Status) (old : List ℕ) → s ≢ Done → s ≢ WriteFault 0 → LinesShow (AreRunFrom p m (length m.rows)) lines s old old
  silent s old done fault = record { done = λ is. absurd (done is); fault = λ is. absurd (fault is); memory = λ is. inl refl; other = λ a b d. refl }

  pub lines_told : (tells : Status → Type 0) → IsToldBy p m tells (lines_act (λ e. p.holds (row_of m e)) (λ e. p.outside (row_of m e)) m lines)
  lines_told tells = record {
    one = one_call told.judged (length m.rows);
    refused = λ s. inl;
    silent = λ s why old. elim why [ inl is ↦ silent s old (λ e. cc) (λ e. cc) | inr refused ↦ (let is = refused.is in silent s old (λ e. cc) (λ e. cc)) ];
    all = λ text run are. (
      inr (refl, run),
      λ old. record {
        done = λ is. (run, told.whole text are old);
        fault = λ is. absurd (let never : ⊥ = cc in never);
        memory = λ is. absurd (let never : ⊥ = cc in never);
        other = λ done fault memory. absurd (done refl);
      },
    );
    short = λ k text within run are old. record {
      done = λ is. absurd (let never : ⊥ = cc in never);
      fault = λ is. absurd (let never : ⊥ = cc in never);
      memory = λ is. inr (run, told.some k text within are old);
      other = λ done fault memory. absurd (memory refl);
    };
    cut = λ k text within some run are. (
      (run, omega (arith, within, some)),
      λ old new part. record {
        done = λ is. absurd (let never : ⊥ = cc in never);
        fault = λ is. (run, told.part run k text within are old new part);
        memory = λ is. absurd (let never : ⊥ = cc in never);
        other = λ done fault memory. absurd (fault refl);
      },
    );
    stopped = λ k text s lt run are stops. absurd (told.never (k + 1) (row_of m k) s stops);
  }

-- what is called for tells
pub lines_telling : {Held : ℕ → Type 0} {Out : (e coordinate : ℕ) → Type 0} {rows : ℕ} (s : Status) → IsFirstOut Held Out rows s ⊎ ((s ≡ Done) × AreHeld Held rows) → IsTelling s
lines_telling s (inl outside) = let is = outside.is in record { usage = λ e. cc; text = λ at e. cc; controller = λ at e. cc }
lines_telling s (inr done) = done_telling s done.0

-- ---- what the output got, by what a command shows
module _ (lines : Lines) (s : Status) (old new : List ℕ) (none : new ≡ old → lines.some old new) where
  pub nothing_shown : {Why : Type 0} → IsNothing Why s old new → AreLinesPrinted lines s old new
  nothing_shown nothing = record { done = λ is. absurd (nothing.done is); fault = λ is. absurd (nothing.write 0 is); memory = λ is. none nothing.same }

  pub lines_shown : (Inside : Type 0) → LinesShow Inside lines s old new → AreLinesPrinted lines s old new
  lines_shown Inside shown = record {
    done = λ is. (shown.done is).1;
    fault = λ is. (shown.fault is).1;
    memory = λ is. elim (shown.memory is) [ inl same ↦ none same | inr some ↦ some.1 ];
  }
