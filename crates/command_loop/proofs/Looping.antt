-- The loops of all records: their lines, and what is answered and printed where one ends early.
use Rattle.std.proofs.Common.{◌≡◌, ◌≢◌, inl, inr, ℕ, zero, suc, ◌+◌, ◌-◌, ◌<◌, ◌≤◌, ◌^◌, ◌↔◌, ℤ, List, [], ◌++◌, length, Option, Some, None, option_map, Result, Ok, Err, refl, le_refl, sym, ap, ◌∙◌, subst, add-one, append_assoc, append-nil, arith}
use Rattle.std.specs.Prelude.{IfSome, IsSomeAnd, OnOk, IfErr}
use Rattle.std.proofs.lemmas.Bool.{cases_lt}
use Rattle.io_edge.specs.Faults.{Rose}
use Rattle.io_edge.specs.declared.sink.Sink.{Ghosts as Screen}
use Rattle.mat_int.specs.Matrix.{Matrix, row_of}
use Rattle.qp_model.specs.machine.Controller.{Numbers}
use Rattle.closed_loop.specs.Looping.{Looping}
use Rattle.qp_model.specs.declared.quantity.Quantity.{Quantity}
use Rattle.qp_model.specs.declared.quantity.Quantity.TheVariants.{Turn}
use Rattle.closed_loop.specs.Answers.{LieInside, LeavesAmong, MayBegin, GrowsByLines, GrowsByFront}
use Rattle.closed_loop.specs.Shows.{LoopEnds}
use Rattle.closed_loop.specs.declared.fault.LoopFault.{LoopFault}
use Rattle.closed_loop.specs.declared.fault.LoopFault.TheVariants as faults
use Rattle.command_line.proofs.Counts.{rose_later}
use Rattle.command_line.specs.declared.status.Status.{Status}
use Rattle.command_line.specs.declared.status.Status.TheVariants.{Memory, WriteFault, Refused, OutsideBox}
use Rattle.qp_model.specs.declared.refusal.Refusal.TheVariants.{TooWide}
use Rattle.command_loop.specs.Loop.{Course, AllStay, FitsTurn, TellsLeavingLater, LoopsPrint, record_lines}
use Rattle.command_loop.specs.Printing.{loop_status, RecordShows, IsBeforeLines, LoopsEnd, LoopsDone}

-- `turn` is within its limit where a loop is not refused for it
pub narrow : (size : ℕ) (r : Result (Unit {0}) LoopFault) → ((quantity : Quantity) → (r ≡ Err (faults.TooWide quantity)) ↔ ((quantity ≡ Turn) × (2 ^ 126 < size))) →
    (r ≡ Err (faults.TooWide Turn) → ⊥) → size ≤ 2 ^ 126
narrow size r wide not = elim (cases_lt (2 ^ 126) size) [ inl lt ↦ absurd (not ((wide Turn).1 (refl, lt))) | inr le ↦ le ]

-- ---- what the loop of a record says
module _ (size : ℕ) (c : Numbers) (l : Course) (entry : ℕ) (start : List ℤ) (old new : Option (List ℕ)) (before now : ℕ) (Untouched : Type 0) (same : Untouched → new ≡ old)
    (turns : ℕ) (r : Result (Unit {0}) LoopFault) (ends : LoopEnds c (l.states start) (l.lines entry start) turns (size) old new before now Untouched r) where
  shows : (fault : LoopFault) → r ≡ Err fault → RecordShows size c l entry start turns old new fault
  shows faults.Memory is = (narrow (size) r ends.wide (λ e. cc), ends.memory is)
  shows (faults.TooWide quantity) is = let w = (ends.wide quantity).0 is in (w.0, w.1, same (ends.wide_put w.1))
  shows (faults.OutsideBox turn coordinate) is = (narrow (size) r ends.wide (λ e. cc), ends.outside turn coordinate is, ends.outside_put turn coordinate is)
  shows faults.WriteFault is = (narrow (size) r ends.wide (λ e. cc), ends.cut is, ends.begun is)

  pub said : IfErr r (RecordShows size c l entry start turns old new)
  said = of r refl
    where
      of : (x : Result (Unit {0}) LoopFault) → r ≡ x → IfErr x (RecordShows size c l entry start turns old new)
      of (Ok done) is = tt
      of (Err fault) is = shows fault is

module _ (size : ℕ) (r : Result (Unit {0}) LoopFault) (wide : (quantity : Quantity) → (r ≡ Err (faults.TooWide quantity)) ↔ ((quantity ≡ Turn) × (2 ^ 126 < size))) where
  pub ok_narrow : OnOk r (size ≤ 2 ^ 126)
  ok_narrow = done r refl
    where
      done : (x : Result (Unit {0}) LoopFault) → r ≡ x → OnOk x (size ≤ 2 ^ 126)
      done (Ok y) is = narrow size r wide (λ e. cc)
      done (Err e) is = tt

  pub said_quietly : {O : Type 0} (old new : O) → (2 ^ 126 < size → new ≡ old) → ((coordinate : ℕ) → r ≡ Err (faults.OutsideBox 1 coordinate) → new ≡ old) → IfErr r (λ fault. IsBeforeLines fault → new ≡ old)
  said_quietly {O} old new none first = go r refl
    where
      go : (x : Result (Unit {0}) LoopFault) → r ≡ x → IfErr x (λ fault. IsBeforeLines fault → new ≡ old)
      go (Ok y) is = tt
      go (Err faults.Memory) is = λ never. absurd never
      go (Err (faults.TooWide quantity)) is = λ t. none ((wide quantity).0 is).1
      go (Err (faults.OutsideBox turn coordinate)) is = λ one. first coordinate (is ∙ ap (λ (k : ℕ). Err (faults.OutsideBox k coordinate)) one)
      go (Err faults.WriteFault) is = λ never. absurd never

-- what is said of a controller's runs, a start and shifts that are these
pub said_along : (P : Looping → List ℤ → Option Matrix → Type 0) (k c : Looping) (row start : List ℤ) (w v : Option Matrix) → k ≡ c → row ≡ start → w ≡ v → P k row w → P c start v
said_along P k c row start w v same there along h =
    subst (λ (u : Option Matrix). P c start u) along (subst (λ (x : List ℤ). P c x w) there (subst (λ (x : Looping). P x row w) same h))

-- a print that failed raised the count over all records
pub failed : (entry : ℕ) (fault : LoopFault) (s : Status) (before mid now : ℕ) → s ≡ loop_status entry fault → before ≤ mid → mid ≤ now → (fault ≡ faults.WriteFault → Rose mid now) → s ≡ WriteFault 0 → Rose before now
failed entry faults.Memory s before mid now is low high rose told = absurd (let never : ⊥ = cc in never)
failed entry (faults.TooWide quantity) s before mid now is low high rose told = absurd (let never : ⊥ = cc in never)
failed entry (faults.OutsideBox turn coordinate) s before mid now is low high rose told = absurd (let never : ⊥ = cc in never)
failed entry faults.WriteFault s before mid now is low high rose told = rose_later before mid now low high (rose refl)

-- memory that runs out before any loop
pub nothing_done : {O : Type 0} (screen : Screen O) (size : ℕ) (c : Numbers) (l : Course) (turns : ℕ) (m : Matrix) (out : O) → LoopsDone screen size c l turns m out out Memory
nothing_done screen size c l turns m out = record {
  ends = inl refl;
  printed = both (screen.got out);
  quiet = λ done memory fault later. refl;
  failed = λ e. absurd (let never : ⊥ = cc in never);
  no_fewer = le_refl (screen.faults out);
}
  where
    both : (got : Option (List ℕ)) → IfSome got (λ old. IsSomeAnd got (LoopsPrint size c l turns m Memory old))
    both None = tt
    both (Some old) = record {
      done = λ e. absurd (let never : ⊥ = cc in never);
      outside = λ told. let e = told.3 in absurd (let never : ⊥ = cc in never);
      fault = λ e. absurd (let never : ⊥ = cc in never);
      memory = λ e. inl refl;
      other = λ a b e f. refl;
    }

module _ (size : ℕ) (c : Numbers) (l : Course) (m : Matrix) (turns : ℕ) where
  -- ---- the lines so far
  lines_none : record_lines l m turns 0 ≡ []
  unfolding record_lines
  lines_none = refl

  lines_step : (k : ℕ) → record_lines l m turns (suc k) ≡ record_lines l m turns k ++ l.lines (k + 1) (row_of m k) turns
  unfolding record_lines
  lines_step k = refl

  lines_more : (k : ℕ) → record_lines l m turns (k + 1) ≡ record_lines l m turns k ++ l.lines (k + 1) (row_of m k) turns
  lines_more k = ap (record_lines l m turns) (add-one k) ∙ lines_step k

  pub put_none : (first : Option (List ℕ)) → first ≡ option_map (λ o. o ++ record_lines l m turns 0) first
  put_none None = refl
  put_none (Some o) = rw (lines_none, append-nil) refl

  pub put_more : (k : ℕ) (first mid new : Option (List ℕ)) → mid ≡ option_map (λ o. o ++ record_lines l m turns k) first → new ≡ option_map (λ o. o ++ l.lines (k + 1) (row_of m k) turns) mid →
      new ≡ option_map (λ o. o ++ record_lines l m turns (k + 1)) first
  put_more k None mid new e h = h ∙ ap (option_map (λ o. o ++ l.lines (k + 1) (row_of m k) turns)) e
  put_more k (Some o) mid new e h =
      h ∙ ap (option_map (λ o. o ++ l.lines (k + 1) (row_of m k) turns)) e
      ∙ ap Some (append_assoc o (record_lines l m turns k) (l.lines (k + 1) (row_of m k) turns) ∙ ap (λ (t : List ℕ). o ++ t) (sym (lines_more k)))

  -- ---- all records were run
  fits : (k : ℕ) → k ≡ length m.rows → (0 < k → size ≤ 2 ^ 126) → FitsTurn size m
  fits k is narrow = elim (cases_lt 0 k) [ inl lt ↦ inr (narrow lt) | inr le ↦ inl (omega (arith, le, is)) ]

  -- the first record's state lies in the box, where a line of some record may be put
  first_inside : (i : ℕ) → AllStay c l m turns i → MayBegin c (l.states (row_of m i)) turns → LieInside c (l.states (row_of m 0)) 1
  first_inside zero stay begun = begun.inside
  first_inside (suc i) stay begun = record { each = λ k l. (stay 0 (omega arith)).each k (omega (arith, l, begun.some)) }

  -- ---- the loop of a record ended early
  pub ends : (i : ℕ) (fault : LoopFault) (s : Status) (old new : Option (List ℕ)) → s ≡ loop_status (i + 1) fault → i < length m.rows → AllStay c l m turns i → RecordShows size c l (i + 1) (row_of m i) turns old new fault →
      LoopsEnd size c l turns m s
  ends i faults.Memory s old new is there stay w = inl is
  ends i (faults.TooWide quantity) s old new is there stay w = inr (inr (inl (record { record_there = omega (arith, there); wide = w.1; is = is ∙ ap (λ (q : Quantity). Refused (TooWide q)) w.0 })))
  ends i (faults.OutsideBox turn coordinate) s old new is there stay w =
      inr (inr (inr (inl (inr w.0, record { index = i; turn = turn; coordinate = coordinate; there = there; before = stay; here = w.1; is = is }))))
  ends i faults.WriteFault s old new is there stay w =
      inr (inl (is, record { record_there = omega (arith, there); turn_there = w.2.some; narrow = w.0; inside = first_inside i stay w.2 }))

  to_memory : (i : ℕ) (s : Status) (old new : List ℕ) → s ≡ Memory → i < length m.rows → AllStay c l m turns i → size ≤ 2 ^ 126 →
      GrowsByLines c (l.states (row_of m i)) (l.lines (i + 1) (row_of m i)) turns (old ++ record_lines l m turns i) new → LoopsPrint size c l turns m s old new
  to_memory i s old new is there stay small g = record {
    done = λ e. absurd (let never : ⊥ = cc in never);
    outside = λ told. let e = told.3 in absurd (let never : ⊥ = cc in never);
    fault = λ e. absurd (let never : ⊥ = cc in never);
    memory = λ e. inr (record {
      fits = inr small;
      index = i;
      there = there;
      before = stay;
      some = g.done;
      within = g.within;
      inside = g.inside;
      printed = g.grown ∙ append_assoc old (record_lines l m turns i) (l.lines (i + 1) (row_of m i) g.done);
    });
    other = λ a b e f. absurd (f is);
  }

  to_wide : (i : ℕ) (quantity : Quantity) (s : Status) (old : List ℕ) → s ≡ Refused (TooWide quantity) → (0 < i → size ≤ 2 ^ 126) → 2 ^ 126 < size → LoopsPrint size c l turns m s old (old ++ record_lines l m turns i)
  to_wide i quantity s old is narrow wide = record {
    done = λ e. absurd (let never : ⊥ = cc in never);
    outside = λ told. let e = told.3 in absurd (let never : ⊥ = cc in never);
    fault = λ e. absurd (let never : ⊥ = cc in never);
    memory = λ e. absurd (let never : ⊥ = cc in never);
    other = λ a b e f. ap (λ (k : ℕ). old ++ record_lines l m turns k) first ∙ ap (λ (t : List ℕ). old ++ t) lines_none ∙ append-nil old;
  }
    where
      first : i ≡ 0
      first = elim (cases_lt 0 i) [ inl lt ↦ absurd (omega (arith, narrow lt, wide)) | inr le ↦ omega (arith, le) ]

  to_leaving : (i turn coordinate : ℕ) (s : Status) (old : List ℕ) → s ≡ OutsideBox (i + 1) turn coordinate → i < length m.rows → AllStay c l m turns i → LeavesAmong c (l.states (row_of m i)) turns turn coordinate →
      LoopsPrint size c l turns m s old ((old ++ record_lines l m turns i) ++ l.lines (i + 1) (row_of m i) (turn - 1))
  to_leaving i turn coordinate s old is there stay here = record {
    done = λ e. absurd (let never : ⊥ = cc in never);
    outside = λ told. record {
      leaving = record { index = i; turn = turn; coordinate = coordinate; there = there; before = stay; here = here; is = is };
      printed = append_assoc old (record_lines l m turns i) (l.lines (i + 1) (row_of m i) (turn - 1));
    };
    fault = λ e. absurd (let never : ⊥ = cc in never);
    memory = λ e. absurd (let never : ⊥ = cc in never);
    other = λ a b e f. absurd (b (i + 1, turn, coordinate, is));
  }

  to_fault : (i : ℕ) (s : Status) (old new : List ℕ) → s ≡ WriteFault 0 → i < length m.rows → AllStay c l m turns i → size ≤ 2 ^ 126 →
      GrowsByFront c (l.states (row_of m i)) (l.lines (i + 1) (row_of m i)) turns (old ++ record_lines l m turns i) new → LoopsPrint size c l turns m s old new
  to_fault i s old new is there stay small g = record {
    done = λ e. absurd (let never : ⊥ = cc in never);
    outside = λ told. let e = told.3 in absurd (let never : ⊥ = cc in never);
    fault = λ e. record {
      fits = inr small;
      index = i;
      there = there;
      before = stay;
      some = g.done;
      within = g.within;
      inside = g.inside;
      printed = record {
        part = record_lines l m turns i ++ g.part;
        proper = record {
          rest = g.proper.rest;
          is = ap (λ (t : List ℕ). record_lines l m turns i ++ t) g.proper.is ∙ sym (append_assoc (record_lines l m turns i) g.part g.proper.rest);
          proper = g.proper.proper;
        };
        printed = g.grown ∙ append_assoc old (record_lines l m turns i) g.part;
      };
    };
    memory = λ e. absurd (let never : ⊥ = cc in never);
    other = λ a b e f. absurd (e is);
  }

  from_some : (i : ℕ) (fault : LoopFault) (s : Status) (old : List ℕ) (new : Option (List ℕ)) → s ≡ loop_status (i + 1) fault → i < length m.rows → AllStay c l m turns i →
      (0 < i → size ≤ 2 ^ 126) → RecordShows size c l (i + 1) (row_of m i) turns (Some (old ++ record_lines l m turns i)) new fault → IsSomeAnd new (LoopsPrint size c l turns m s old)
  from_some i faults.Memory s old (Some new) is there stay narrow w = to_memory i s old new is there stay w.0 w.1
  from_some i faults.Memory s old None is there stay narrow w = w.1
  from_some i (faults.TooWide quantity) s old new is there stay narrow w =
      subst (λ (o : Option (List ℕ)). IsSomeAnd o (LoopsPrint size c l turns m s old)) (sym w.2) (to_wide i quantity s old is narrow w.1)
  from_some i (faults.OutsideBox turn coordinate) s old new is there stay narrow w =
      subst (λ (o : Option (List ℕ)). IsSomeAnd o (LoopsPrint size c l turns m s old)) (sym w.2) (to_leaving i turn coordinate s old is there stay w.1)
  from_some i faults.WriteFault s old (Some new) is there stay narrow w = to_fault i s old new is there stay w.0 w.1
  from_some i faults.WriteFault s old None is there stay narrow w = w.1

  pub printed : (i : ℕ) (fault : LoopFault) (s : Status) (first mid new : Option (List ℕ)) → s ≡ loop_status (i + 1) fault → i < length m.rows → AllStay c l m turns i → (0 < i → size ≤ 2 ^ 126) →
      mid ≡ option_map (λ o. o ++ record_lines l m turns i) first → RecordShows size c l (i + 1) (row_of m i) turns mid new fault → IfSome first (λ old. IsSomeAnd new (LoopsPrint size c l turns m s old))
  printed i fault s None mid new is there stay narrow e w = tt
  printed i fault s (Some old) mid new is there stay narrow e w =
      from_some i fault s old new is there stay narrow (subst (λ (o : Option (List ℕ)). RecordShows size c l (i + 1) (row_of m i) turns o new fault) e w)

  pub quiet : {O : Type 0} (i : ℕ) (fault : LoopFault) (s : Status) (old new : Option (List ℕ)) (first mid last : O) → s ≡ loop_status (i + 1) fault → (0 < i → size ≤ 2 ^ 126) → (i ≡ 0 → mid ≡ first) →
      (IsBeforeLines fault → last ≡ mid) → RecordShows size c l (i + 1) (row_of m i) turns old new fault → s ≢ Memory → s ≢ WriteFault 0 → ¬ TellsLeavingLater s → last ≡ first
  quiet i faults.Memory s old new first mid last is narrow start before w memory cut leaving = absurd (memory is)
  quiet i (faults.TooWide quantity) s old new first mid last is narrow start before w memory cut leaving =
      before tt ∙ start (elim (cases_lt 0 i) [ inl lt ↦ absurd (omega (arith, narrow lt, w.1)) | inr le ↦ omega (arith, le) ])
  quiet i (faults.OutsideBox turn coordinate) s old new first mid last is narrow start before w memory cut leaving =
      elim (cases_lt 0 i) [
        | inl lt ↦ absurd (leaving (i + 1, turn, coordinate, is, inl (omega (arith, lt))))
        | inr le ↦ elim (cases_lt 1 turn) [
          | inl more ↦ absurd (leaving (i + 1, turn, coordinate, is, inr more))
          | inr few ↦ before (omega (arith, few, w.1.is)) ∙ start (omega (arith, le))
        ]
      ]
  quiet i faults.WriteFault s old new first mid last is narrow start before w memory cut leaving = absurd (cut is)
