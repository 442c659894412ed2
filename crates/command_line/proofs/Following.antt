-- What a command does, by the script that it runs along.
use Rattle.std.proofs.Common.{◌≡◌, ◌≢◌, inl, inr, ℕ, ◌≤◌, Bool, true, false, List, Option, Some, None, option_map, Ok, Err, refl, sym, ap, ◌∙◌, subst, le_refl}
use Rattle.std.specs.Prelude.{IfSome, IsSomeAnd}
use Rattle.io_edge.specs.Faults.{Files, Rose, NoneFalls}
use Rattle.io_edge.specs.declared.store.Store.{Ghosts as Disk}
use Rattle.io_edge.specs.declared.sink.Sink.{Ghosts as Screen}
use Rattle.command_line.specs.Words.{word_of}
use Rattle.command_line.specs.Answers.{ForContents, IsAnswer, IsCaused, FileHolds, IsFileRefused}
use Rattle.command_line.specs.Deeds.{Deeds, IsCalledFor, UsesNoFile, WriteFailed}
use Rattle.command_line.specs.Kind.{Kind, IsRead, EndsRead, Passes, ReadsWhere}
use Rattle.command_line.specs.Script.{Act, Script, ends, reads, tests, reads_where, IsNothing, reads_of, calls_of, reaches_of, starts_of, shows_of, leaves_at, leaves_of, Work, deeds_of_work}
use Rattle.command_line.specs.Does.{Does, Acts, Prints}
use Rattle.command_line.specs.Running.{EndsAtFile, Stopping, Failing, Ending, running, Runs}
use Rattle.command_line.proofs.Composing.{weaker}
use Rattle.command_line.proofs.Counts.{rose_later, none_falls_twice}
use Rattle.command_line.proofs.Doing.{IsRefusal, IsRow, telling, complete, unshown, none_falls}
use Rattle.command_line.proofs.Gathering.{along, comes, IsRefusedBy, IsSound, sound_telling, IsWrongIn, RunsAt, gathered, answers}
use Rattle.command_line.specs.declared.status.Status.{Status}
use Rattle.command_line.specs.declared.status.Status.TheVariants.{Done, Memory, ReadFault, WriteFault}

-- ---- a run from a later store
why_later : (k : Kind) (file : ℕ) (held : Option Files) (name : List ℕ) (before mid now : ℕ) (s : Status) → (Rose mid now → Rose before now) → EndsRead k file held name mid now s → EndsRead k file held name before now s
why_later k file held name before mid now s rose (inl is) = inl is
why_later k file held name before mid now s rose (inr (inl fault)) = inr (inl (fault.0, rose fault.1))
why_later k file held name before mid now s rose (inr (inr wrong)) = inr (inr wrong)

failed_later : (deeds : Deeds) (words : List (List ℕ)) (file : ℕ) (before mid now : List ℕ → ℕ) (p q : ℕ) → NoneFalls before mid → NoneFalls mid now → WriteFailed deeds words file mid now p q → WriteFailed deeds words file before now p q
failed_later deeds words file before mid now p q first second (inl printed) = inl printed
failed_later deeds words file before mid now p q first second (inr written) =
    inr (written.0, rose_later _ _ _ (first.each (word_of words file)) (second.each (word_of words file)) written.1)

pub passed_twice : {S : Type 0} {disk : Disk S} (before mid now : S) → Passes disk before mid → Passes disk mid now → Passes disk before now
passed_twice before mid now first second = record {
  held = second.held ∙ first.held;
  reads = none_falls_twice _ _ _ first.reads second.reads;
  writes = none_falls_twice _ _ _ first.writes second.writes;
}

-- a file that ended it
pub ends_later : {S : Type 0} {disk : Disk S} {before mid now : S} {s : Status} (words : List (List ℕ)) → Passes disk before mid → Passes disk mid now → (file : ℕ) (k : Kind) → EndsAtFile disk words mid now s file k →
    EndsAtFile disk words before now s file k
ends_later {S} {disk} {before} {mid} {now} {s} words first second file k end =
    let name = word_of words file in
    why_later k file (disk.held before) name (disk.read_faults before name) (disk.read_faults mid name) (disk.read_faults now name) s (rose_later _ _ _ (first.reads.each name) (second.reads.each name))
    (subst (λ (h : Option Files). EndsRead k file h name (disk.read_faults mid name) (disk.read_faults now name) s) first.held end)

-- nothing is printed, where memory runs out or the answer is a refusal
pub nothing_printed : {O : Type 0} {screen : Screen O} {deeds : Deeds} {out : O} {s : Status} {a : Act} → (IsCaused s → IsAnswer a.calls s) → ((file : ℕ) → s ≢ ReadFault file) → ((file : ℕ) → s ≢ WriteFault file) →
    ((old : List ℕ) → a.shows s old old) → Prints screen deeds out out s a
nothing_printed {O} {screen} {deeds} {out} {s} {a} called read write shows = record {
  called = called;
  read_fault = read;
  write_fault = λ file is. absurd (write file is);
  shows = unshown (screen.got out) (a.shows s) shows;
  quiet = λ earlier. refl;
  no_fewer = le_refl (screen.faults out);
}

module _ {S O : Type 0} {disk : Disk S} {screen : Screen O} {words : List (List ℕ)} {deeds : Deeds} where
  module _ {before now : S} {out out_now : O} {s : Status} where
    -- a file that was read, and what comes next
    pub went_on : {mid : S} {file : ℕ} {k : Kind} {next : k.Value → Script} {x : k.Value} → Passes disk before mid → IsRead k file (disk.held before) (word_of words file) x →
        Runs disk screen words deeds mid now out out_now s (next x) → Runs disk screen words deeds before now out out_now s (reads file k next)
    went_on {mid} {file} {k} {next} {x} passes read rest = record {
      run = inr (
        x,
        read,
        along (running disk screen words deeds mid now out out_now s) (running disk screen words deeds before now out out_now s)
            (λ file k x. subst (λ (h : Option Files). IsRead k file h (word_of words file) x) passes.held)
            (λ file k stop. record { why = ends_later words passes stop.passes file k stop.why; passes = passed_twice before mid now passes stop.passes; silent = stop.silent })
            (λ Refuses stop. record { why = stop.why; passes = passed_twice before mid now passes stop.passes; silent = stop.silent })
            acts_later (next x) rest.run,
      );
    }
      where
        acts_later : (a : Act) → Acts disk screen words deeds mid now out out_now s a → Acts disk screen words deeds before now out out_now s a
        acts_later a acts = record {
          called = acts.called;
          read_fault = acts.read_fault;
          write_fault = λ file is. let found = acts.write_fault file is in (found.0, failed_later deeds words file _ _ _ _ _ passes.writes acts.writes found.1);
          shows = acts.shows;
          quiet = acts.quiet;
          leaves = subst (λ (h : Option Files). a.leaves words s h (disk.held now)) passes.held acts.leaves;
          held = λ unwritten. acts.held unwritten ∙ passes.held;
          reads = none_falls_twice _ _ _ passes.reads acts.reads;
          writes = none_falls_twice _ _ _ passes.writes acts.writes;
          no_fewer = acts.no_fewer;
        }

    -- a test that was passed, and what comes next
    pub passed : {Refuses : Status → Type 0} {Pass : Type 0} {next : Script} → Pass → Runs disk screen words deeds before now out out_now s next →
        Runs disk screen words deeds before now out out_now s (tests Refuses Pass next)
    passed is rest = record { run = inr (is, rest.run) }

    -- all is read
    pub acted : {a : Act} → Acts disk screen words deeds before now out out_now s a → Runs disk screen words deeds before now out out_now s (ends a)
    acted acts = record { run = acts }

  module _ {before now : S} {out : O} {s : Status} where
    -- a file that ends it
    pub stopped : {file : ℕ} {k : Kind} {next : k.Value → Script} → Passes disk before now → EndsAtFile disk words before now s file k → Runs disk screen words deeds before now out out s (reads file k next)
    stopped passes end = record { run = inl (record { why = end; passes = passes; silent = refl }) }

  module _ {now : S} {out : O} {s : Status} where
    -- a test that does
    pub failed : {Refuses : Status → Type 0} {Pass : Type 0} {next : Script} → Refuses s → Runs disk screen words deeds now now out out s (tests Refuses Pass next)
    failed refused = record { run = inl (record { why = refused; passes = record { held = refl; reads = none_falls _; writes = none_falls _ }; silent = refl }) }

  -- ---- a file that is read where it is asked for
  pub went_where : {X : Type 0} (asked : Bool) (file : ℕ) (k : Kind) (next : Option k.Value → Script) (seen : X → k.Value) (o : Option X) {before mid now : S} {out out_now : O} {s : Status} →
      ReadsWhere disk asked k file (word_of words file) seen (Ok o) before mid → Runs disk screen words deeds mid now out out_now s (next (option_map seen o)) →
      Runs disk screen words deeds before now out out_now s (reads_where asked file k next)
  went_where true file k next seen (Some x) did rest = went_on did.2 did.0 rest
  went_where true file k next seen None did rest = absurd did.0
  went_where false file k next seen o {before} {mid} {now} {out} {out_now} {s} did rest =
      let none : o ≡ None = cc did.0 in
      subst (λ (from : S). Runs disk screen words deeds from now out out_now s (next None)) did.1 (subst (λ (x : Option _). Runs disk screen words deeds mid now out out_now s (next (option_map seen x))) none rest)

  pub stopped_where : {X : Type 0} (asked : Bool) (file : ℕ) (k : Kind) (next : Option k.Value → Script) (seen : X → k.Value) {before now : S} {out : O} {s : Status} →
      ReadsWhere disk asked k file (word_of words file) seen (Err s) before now → Runs disk screen words deeds before now out out s (reads_where asked file k next)
  stopped_where true file k next seen did = stopped did.2 did.1
  stopped_where false file k next seen did = absurd (let never : ⊥ = cc did.0 in never)

  -- ---- what is done once the files are read
  -- nothing, where memory runs out or the answer is a refusal
  pub nothing_done : {now : S} {out : O} {s : Status} {a : Act} → (IsCaused s → IsAnswer a.calls s) → ((file : ℕ) → s ≢ ReadFault file) → ((file : ℕ) → s ≢ WriteFault file) → ((old : List ℕ) → a.shows s old old) →
      a.leaves words s (disk.held now) (disk.held now) → Acts disk screen words deeds now now out out s a
  nothing_done {now} {out} {s} {a} called read write shows leaves = record {
    called = called;
    read_fault = read;
    write_fault = λ file is. absurd (write file is);
    shows = unshown (screen.got out) (a.shows s) shows;
    quiet = λ unprinted. refl;
    leaves = leaves;
    held = λ unwritten. refl;
    reads = none_falls (disk.read_faults now);
    writes = none_falls (disk.write_faults now);
    no_fewer = le_refl (screen.faults out);
  }

  -- it prints
  pub printed : {now : S} {out out_now : O} {s : Status} {a : Act} → deeds.prints → Prints screen deeds out out_now s a → a.leaves words s (disk.held now) (disk.held now) → Acts disk screen words deeds now now out out_now s a
  printed {now} {out} {out_now} {s} {a} prints p leaves = record {
    called = p.called;
    read_fault = p.read_fault;
    write_fault = λ file is. let found = p.write_fault file is in (found.1, inl (found.0, prints, found.2));
    shows = p.shows;
    quiet = λ unprinted. elim unprinted [ inl never ↦ absurd (never prints) | inr earlier ↦ p.quiet earlier ];
    leaves = leaves;
    held = λ unwritten. refl;
    reads = none_falls (disk.read_faults now);
    writes = none_falls (disk.write_faults now);
    no_fewer = p.no_fewer;
  }

-- ---- a file that ends a command
module _ (k : Kind) (file : ℕ) (by : IsRefusedBy file k) (held : Option Files) (name : List ℕ) (before now : ℕ) (s : Status) where
  its_status : (P : Type 0) → (s ≡ Memory → P) → ((s ≡ ReadFault file) × Rose before now → P) → (IsRefusal s → P) → EndsRead k file held name before now s → P
  its_status P memory read refusal (inl is) = memory is
  its_status P memory read refusal (inr (inl fault)) = read fault
  its_status P memory read refusal (inr (inr wrong)) = refusal (by wrong.content s wrong.answer.called)

  unwritten : EndsRead k file held name before now s → (s ≢ Done) × ((at : ℕ) → s ≢ WriteFault at)
  unwritten end = (
    its_status (s ≢ Done) (λ is e. cc) (λ fault e. let is = fault.0 in cc) (λ r. r.done) end,
    its_status ((at : ℕ) → s ≢ WriteFault at) (λ is at e. cc) (λ fault at e. let is = fault.0 in cc) (λ r. r.write) end,
  )

  its_fault : EndsRead k file held name before now s → (at : ℕ) → s ≡ ReadFault at → (at ≡ file) × Rose before now
  its_fault end at is =
      its_status ((at ≡ file) × Rose before now) (λ memory. absurd (let never : ⊥ = cc in never)) (λ fault. let failed = fault.0 in (let same : at ≡ file = cc in same, fault.1))
      (λ r. absurd (r.read at is)) end

-- ---- all that a command does
-- its script is sound, and reads a file
pub record IsSoundWork (w : Work) : Type 0 where
  pub sound : IsSound 0 w.script
  pub first : reads_of w.script 1

module _ {S O : Type 0} {disk : Disk S} {screen : Screen O} {words : List (List ℕ)} (w : Work) (sound : IsSound 0 w.script) {before now : S} {out out_now : O} {s : Status}
    (unused : UsesNoFile (deeds_of_work w) → now ≡ before) (runs : Runs disk screen words (deeds_of_work w) before now out out_now s w.script) where
  abbrev held : Option Files
  held = disk.held before

  abbrev stop : ℕ → Kind → Type 0
  stop = Stopping disk screen words (deeds_of_work w) before now out out_now s

  abbrev fail : (Status → Type 0) → Type 0
  fail = Failing disk screen words (deeds_of_work w) before now out out_now s

  abbrev end : Act → Type 0
  end = Ending disk screen words (deeds_of_work w) before now out out_now s

  row : IsRow (deeds_of_work w)
  row = record {
    reached = λ contents at. along _ _ (λ file k x h. tt) (λ file k same. same) (λ Refuses never. never) (λ a never. never) w.script;
    telling = sound_telling 0 w.script sound;
  }

  contents : ForContents words held (RunsAt stop fail end s w.script)
  contents =
      gathered stop fail end s words held (λ file. disk.read_faults before (word_of words file)) (λ file. disk.read_faults now (word_of words file)) (λ file k h. h.why) (λ Refuses h. h.why) 0 w.script sound runs.run

  where_it_ends : (P : Type 0) → ((file : ℕ) (k : Kind) → stop file k → IsRefusedBy file k → P) → ((Refuses : Status → Type 0) → fail Refuses → IsRefusal s → P) → ((a : Act) → end a → P) → P
  where_it_ends P stopped failed ended = comes _ P (λ file k h. stopped file k h.0 h.1) (λ Refuses h. failed Refuses h.0 h.1) ended w.script contents.true_of

  called : IsCaused s → ForContents words held (λ c. IsAnswer (calls_of w.script c) s)
  called caused = weaker words held (RunsAt stop fail end s w.script) _ (λ c h. answers stop fail end s (λ Refuses h. h.why) (λ a acts. acts.called) 0 w.script sound c h caused) contents

  read_failed : (at : ℕ) → s ≡ ReadFault at → ForContents words held (λ c. reaches_of w.script c at) × Rose (disk.read_faults before (word_of words at)) (disk.read_faults now (word_of words at))
  read_failed at e = (
    weaker words held (RunsAt stop fail end s w.script) _
        (λ c. along _ _ (λ file k x h. h.right) (λ file k h. (its_fault k file h.1 held (word_of words file) _ _ s h.0.why at e).0) (λ Refuses h. absurd (h.1.read at e)) (λ a acts. absurd (acts.read_fault at e)) w.script)
        contents,
    where_it_ends _
        (λ file k h by.
        let found = its_fault k file by held (word_of words file) _ _ s h.why at e in
        subst (λ (i : ℕ). Rose (disk.read_faults before (word_of words i)) (disk.read_faults now (word_of words i))) (sym found.0) found.1)
        (λ Refuses h refusal. absurd (refusal.read at e)) (λ a acts. absurd (acts.read_fault at e)),
  )

  no_write : (file : ℕ) (k : Kind) → stop file k → IsRefusedBy file k → (s ≢ Done) × ((at : ℕ) → s ≢ WriteFault at)
  no_write file k h by = unwritten k file by held (word_of words file) _ _ s h.why

  nothing : {A : Type 0} (old new : A) → new ≡ old → (content : Option (List ℕ)) (file : ℕ) (k : Kind) → stop file k × IsRefusedBy file k × IsWrongIn content s file k →
      IsNothing (IsFileRefused k.limit file (k.wrong file) content s) s old new
  nothing old new same content file k h = record { done = (no_write file k h.0 h.1).0; write = (no_write file k h.0 h.1).1; why = λ caused. (h.2.answer caused).called; same = same }

  refused_nothing : {A : Type 0} (old new : A) → new ≡ old → (Refuses : Status → Type 0) → fail Refuses × IsRefusal s → IsNothing (Refuses s) s old new
  refused_nothing old new same Refuses h = record { done = h.1.done; write = h.1.write; why = λ caused. h.0.why; same = same }

  write_failed : (at : ℕ) → s ≡ WriteFault at →
      ForContents words held (starts_of w.script) × WriteFailed (deeds_of_work w) words at (disk.write_faults before) (disk.write_faults now) (screen.faults out) (screen.faults out_now)
  write_failed at e = (
    weaker words held (RunsAt stop fail end s w.script) _
        (λ c. along _ _ (λ file k x h. h.right) (λ file k h. (no_write file k h.0 h.1).1 at e) (λ Refuses h. h.1.write at e) (λ a acts. (acts.write_fault at e).0) w.script) contents,
    where_it_ends _ (λ file k h by. absurd ((no_write file k h by).1 at e)) (λ Refuses h refusal. absurd (refusal.write at e)) (λ a acts. (acts.write_fault at e).1),
  )

  shown : (got_now : Option (List ℕ)) (got : Option (List ℕ)) → (out_now ≡ out → got_now ≡ got) → ((a : Act) → end a → IfSome got (λ old. IsSomeAnd got_now (a.shows s old))) →
      IfSome got (λ old. IsSomeAnd got_now (λ new. ForContents words held (λ c. shows_of w.script c s old new)))
  shown (Some new) (Some old) same acts =
      weaker words held (RunsAt stop fail end s w.script) _
      (λ c. along _ _ (λ file k x h. h.right) (λ file k h. nothing old new (let is : new ≡ old = cc (same h.0.silent) in is) (c file) file k h)
      (λ Refuses h. refused_nothing old new (let is : new ≡ old = cc (same h.0.silent) in is) Refuses h) acts w.script) contents
  shown None (Some old) same acts = where_it_ends ⊥ (λ file k h by. cc (same h.silent)) (λ Refuses h refusal. cc (same h.silent)) acts
  shown got_now None same acts = tt

  pub does_along : Does disk screen words (deeds_of_work w) before now out out_now s
  does_along = record {
    called = called;
    telling = telling (deeds_of_work w) row words held s called;
    complete =
        complete (deeds_of_work w) row words held s called (disk.read_faults before) (disk.read_faults now) (disk.write_faults before) (disk.write_faults now) (screen.faults out) (screen.faults out_now) read_failed write_failed;
    read_fault = read_failed;
    write_fault = write_failed;
    shows = shown (screen.got out_now) (screen.got out) (ap screen.got) (λ a acts. acts.shows);
    quiet = λ unprinted. where_it_ends _ (λ file k h by. h.silent) (λ Refuses h refusal. h.silent) (λ a acts. acts.quiet unprinted);
    leaves =
        weaker words held (RunsAt stop fail end s w.script) _
        (λ c. along _ _ (λ file k x h. h.right) (λ file k h. nothing held (disk.held now) h.0.passes.held (c file) file k h)
        (λ Refuses h. refused_nothing held (disk.held now) h.0.passes.held Refuses h) (λ a acts. acts.leaves) w.script)
        contents;
    held = λ unwritten. where_it_ends _ (λ file k h by. h.passes.held) (λ Refuses h refusal. h.passes.held) (λ a acts. acts.held unwritten);
    unused = unused;
    reads = where_it_ends _ (λ file k h by. h.passes.reads) (λ Refuses h refusal. h.passes.reads) (λ a acts. acts.reads);
    writes = where_it_ends _ (λ file k h by. h.passes.writes) (λ Refuses h refusal. h.passes.writes) (λ a acts. acts.writes);
    no_fewer =
        where_it_ends _ (λ file k h by. subst (λ (o : O). screen.faults out ≤ screen.faults o) (sym h.silent) (le_refl (screen.faults out)))
        (λ Refuses h refusal. subst (λ (o : O). screen.faults out ≤ screen.faults o) (sym h.silent) (le_refl (screen.faults out))) (λ a acts. acts.no_fewer);
  }

pub follows : {S O : Type 0} {disk : Disk S} {screen : Screen O} {words : List (List ℕ)} (w : Work) → IsSoundWork w → {before now : S} {out out_now : O} {s : Status} →
    Runs disk screen words (deeds_of_work w) before now out out_now s w.script → Does disk screen words (deeds_of_work w) before now out out_now s
follows w is runs = does_along w is.sound (λ unused. absurd (unused.reads 1 is.first)) runs

-- ---- by the files of a store that tells them: what is left
moved_nothing : {A : Type 0} (k : Kind) (file : ℕ) (content other : Option (List ℕ)) (s : Status) (old new : A) → content ≡ other → IsNothing (IsFileRefused k.limit file (k.wrong file) content s) s old new →
    IsNothing (IsFileRefused k.limit file (k.wrong file) other s) s old new
moved_nothing {A} k file content other s old new = subst (λ (o : Option (List ℕ)). IsNothing (IsFileRefused k.limit file (k.wrong file) o s) s old new)

pub left_told : (words : List (List ℕ)) (s : Status) (files : Files) (new : Option Files) (script : Script) → leaves_of script words s (Some files) new →
    leaves_at script (λ position. files (word_of words position)) words s (Some files) new
left_told words s files new script l =
    along _ _ (λ file k x. subst (λ (o : Option (List ℕ)). FileHolds k.limit (k.right x) o) (l.told file))
    (λ file k. moved_nothing k file (l.contents file) (files (word_of words file)) s (Some files) new (l.told file)) (λ Refuses h. h) (λ a h. h) script l.true_of

-- what the output got
pub shown_told : (words : List (List ℕ)) (s : Status) (files : Files) (script : Script) (before now : Option (List ℕ)) →
    IfSome before (λ old. IsSomeAnd now (λ new. ForContents words (Some files) (λ contents. shows_of script contents s old new))) →
    IfSome before (λ old. IsSomeAnd now (shows_of script (λ position. files (word_of words position)) s old))
shown_told words s files script (Some old) (Some new) l =
    along _ _ (λ file k x. subst (λ (o : Option (List ℕ)). FileHolds k.limit (k.right x) o) (l.told file))
    (λ file k. moved_nothing k file (l.contents file) (files (word_of words file)) s old new (l.told file)) (λ Refuses h. h) (λ a h. h) script l.true_of
shown_told words s files script (Some old) None l = l
shown_told words s files script None now l = tt

-- and what is called for
pub called_told : (words : List (List ℕ)) (s : Status) (files : Files) (w : Work) → calls_of w.script (λ position. files (word_of words position)) s → IsCalledFor (deeds_of_work w) words (Some files) s
called_told words s files w h _ told =
    along _ _ (λ file k x. subst (λ (o : Option (List ℕ)). FileHolds k.limit (k.right x) o) (sym (told file)))
    (λ file k. subst (λ (o : Option (List ℕ)). IsFileRefused k.limit file (k.wrong file) o s) (sym (told file))) (λ Refuses h. h) (λ a h. h) w.script h
