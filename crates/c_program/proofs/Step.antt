-- One repetition of the body makes one step of the controller's machine.
use Rattle.std.proofs.Common.{◌≡◌, ℕ, suc, ◌+◌, ◌^◌, ◌<◌, ◌≤◌, ℤ, pos, ◌+ℤ◌, ◌≤ℤ◌, List, [], ◌∷◌, length, unsigned_abs, ◌∙◌, arith}
use Rattle.std.specs.Int.{int_max}
use Rattle.std.proofs.lemmas.List.FromFn.{length-map-range_with_len}
use Rattle.integer_algebra.specs.Division.{floor_of}
use Rattle.integer_algebra.specs.Sums.{at}
use Rattle.qp_model.specs.machine.Controller.{Numbers}
use Rattle.qp_model.specs.machine.Machine.{Iterate, raised, top_of, plan_entry, row_sum, next_multiplier, step_of}
use Rattle.qp_model.specs.machine.AbsoluteSums.{plan_magnitudes, next_magnitude, sum_magnitude}
use Rattle.qp_model.proofs.AbsoluteLaws.{abs-clamped_le}
use Rattle.qp_model.proofs.MagnitudeLaws.{top_nonneg, top_le_clamp, raised_within, plan_within}
use Rattle.qp_model.specs.machine.Within.{AreWithin}
use Rattle.c_language.specs.Syntax.{variable, Expression, groups}
use Rattle.c_language.specs.Syntax.Family.{Multiplier, Entry, Moved, Sum}
use Rattle.c_language.specs.Syntax.Expression.{Value}
use Rattle.c_language.specs.Syntax.Statement.{Declare, Assign, AtLeastZero, AtMost}
use Rattle.c_language.specs.Meaning.{Environment, with_value}
use Rattle.c_program.specs.Of.{plain_sizes, entry_top, multiplier_top, moved_expression, entry_statements, sum_statements, move_statements, row_statements, repetition_body}
use Rattle.c_language.proofs.Runs.{Runs, runs_none, runs_append, runs_groups}
use Rattle.c_program.proofs.Terms.{Makes, fits64, kind_fits, makes_value, makes_plus}
use Rattle.c_program.proofs.Pairs.{AreMultipliers}
use Rattle.c_program.proofs.Parts.{Ready, moved_made}
use Rattle.c_program.proofs.Before.{OfBases, held_bases, whole_bases, kinds, runs_one, put, kept}
use Rattle.c_program.proofs.Planning.{made_at, StaysBeside, PlanReady, Plans, plan_begins, entries_run, is_planned, StaysByMoves, abs_raised_le, move_runs, Rows, rows_stay, Summed, rows_run, row_sum_small}

-- ---- what a step needs beside its plan's and its rows' sums
pub record StepFits (c : Numbers) (made : Iterate) : Type 0 where
  pub nonneg : pos 0 ≤ℤ c.clamp
  pub next : (i : ℕ) → i < length c.bounds → next_magnitude c i < 2 ^ 63
  pub sums : (j : ℕ) → j < length c.offsets → sum_magnitude c j < 2 ^ 63
  pub ranges : AreMultipliers c made.multipliers
  pub room : (j : ℕ) → j < length c.offsets → unsigned_abs (at made.sums j) + entry_top c j ≤ sum_magnitude c j

-- what the state adds, and what the machine has made
pub record Holds (c : Numbers) (B : OfBases) (made : Iterate) (e : Environment) : Type 0 where
  pub bases : held_bases B e
  pub multipliers : (i : ℕ) → i < length c.bounds → e Multiplier i ≡ at made.multipliers i
  pub sums : (j : ℕ) → j < length c.offsets → e Sum j ≡ at made.sums j

-- ---- the sums
-- beside the plan
abbrev pub AreSummed : Numbers → List ℤ → Environment → Type 0
AreSummed c sums e = (j : ℕ) → j < length c.offsets → e Sum j ≡ at sums j

pub summed_stays : (c : Numbers) (sums : List ℤ) → StaysBeside (AreSummed c sums)
summed_stays c sums = record {
  difference = λ e i z h. h;
  entry = λ e j z h. h;
  gradient = λ e i z h. h;
  row_sum = λ e i z h. h;
  multiplier_high = λ e i z h. h;
  multiplier_low = λ e i z h. h;
  entry_high = λ e j z h. h;
  entry_low = λ e j z h. h;
  gradient_high = λ e i z h. h;
}

-- so many are new
record Adds (c : Numbers) (state : List ℤ) (made : Iterate) (K : Environment → Type 0) (b : ℕ) (e : Environment) : Type 0 where
  beside : K e
  new_sums : (j : ℕ) → j < b → e Sum j ≡ at (step_of c state made).sums j
  old_sums : (j : ℕ) → b ≤ j → j < length c.offsets → e Sum j ≡ at made.sums j

plan_long : (c : Numbers) (state : List ℤ) (made : Iterate) → length (step_of c state made).plan ≡ length c.offsets
plan_long c state made = length-map-range_with_len (plan_entry c state (raised c made.multipliers)) 0 (length c.offsets)

-- what is held beside them has the plan's entries, and stays
pub record HasPlan (c : Numbers) (plan : List ℤ) (K : Environment → Type 0) : Type 0 where
  pub within : AreWithin plan (plan_magnitudes c)
  pub entries : (e : Environment) → K e → (j : ℕ) → j < length c.offsets → e Entry j ≡ at plan j
  pub stays : (e : Environment) (j : ℕ) (z : ℤ) → K e → K (with_value e (variable Sum j) z)

sum_runs : (c : Numbers) (state : List ℤ) (made : Iterate) (K : Environment → Type 0) (j : ℕ) (e : Environment) → StepFits c made → HasPlan c (step_of c state made).plan K → j < length c.offsets →
    Adds c state made K j e → Runs (kinds c (plain_sizes c)) e (sum_statements j) (Adds c state made K (suc j))
sum_runs c state made K j e r has l s =
    let plan = (step_of c state made).plan in
    let old = at made.sums j in
    let whole : sum_magnitude c j < 2 ^ 63 = r.sums j l in
    let m = makes_plus e (Value (variable Sum j)) (Value (variable Entry j)) old (at plan j) (unsigned_abs old) (entry_top c j)
    (makes_value e (variable Sum j) old (unsigned_abs old) (s.old_sums j (omega arith) l) (omega arith) (omega (arith, r.room j l, whole)))
    (makes_value e (variable Entry j) (at plan j) (entry_top c j) (has.entries e s.beside j l) (has.within.each j) (omega (arith, r.room j l, whole)))
    (omega (arith, r.room j l, whole)) in
    let z = old +ℤ at plan j in
    let same : z ≡ at (step_of c state made).sums j = made_at (λ k. at made.sums k +ℤ at plan k) (length plan) j (omega (arith, l, plan_long c state made)) in
    runs_one (kinds c (plain_sizes c)) e _ z (Adds c state made K (suc j)) m.defined m.is
    (kind_fits (sum_magnitude c j) z (omega (arith, m.within, r.room j l)) whole)
    (record {
      beside = has.stays e j z s.beside;
      new_sums = put (e Sum) (at (step_of c state made).sums) j _ same s.new_sums;
      old_sums = kept (e Sum) (at made.sums) j (length c.offsets) _ s.old_sums;
    })

pub sums_run : (c : Numbers) (state : List ℤ) (made : Iterate) (K : Environment → Type 0) (e : Environment) → StepFits c made → HasPlan c (step_of c state made).plan K → K e → AreSummed c made.sums e →
    Runs (kinds c (plain_sizes c)) e (groups sum_statements (length c.offsets)) (λ t. K t × AreSummed c (step_of c state made).sums t)
sums_run c state made K e r has h old =
    let one = runs_groups (kinds c (plain_sizes c)) sum_statements (Adds c state made K) (length c.offsets) e
    (record { beside = h; new_sums = λ k l. absurd (omega (arith, l)); old_sums = λ k l m. old k m }) (λ k u l v. sum_runs c state made K k u r has l v) in
    record { defined = one.defined; ends = (one.ends.beside, one.ends.new_sums) }

-- ---- the multipliers
-- beside the rows: so many are new
pub record AreMoved (c : Numbers) (state : List ℤ) (made : Iterate) (d : ℕ) (sums multipliers : ℕ → ℤ) : Type 0 where
  pub sums_new : (j : ℕ) → j < length c.offsets → sums j ≡ at (step_of c state made).sums j
  pub new_multipliers : (i : ℕ) → i < d → multipliers i ≡ at (step_of c state made).multipliers i
  pub old_multipliers : (i : ℕ) → d ≤ i → i < length c.bounds → multipliers i ≡ at made.multipliers i

abbrev pub Moves : Numbers → List ℤ → Iterate → ℕ → Environment → Type 0
Moves c state made d e = AreMoved c state made d (e Sum) (e Multiplier)

pub moves_stay : (c : Numbers) (state : List ℤ) (made : Iterate) (d : ℕ) → StaysBeside (Moves c state made d)
moves_stay c state made d = record {
  difference = λ e i z h. h;
  entry = λ e j z h. h;
  gradient = λ e i z h. h;
  row_sum = λ e i z h. h;
  multiplier_high = λ e i z h. h;
  multiplier_low = λ e i z h. h;
  entry_high = λ e j z h. h;
  entry_low = λ e j z h. h;
  gradient_high = λ e i z h. h;
}

pub moves_none : (c : Numbers) (state : List ℤ) (made : Iterate) (e : Environment) → AreSummed c (step_of c state made).sums e → ((i : ℕ) → i < length c.bounds → e Multiplier i ≡ at made.multipliers i) →
    Moves c state made 0 e
moves_none c state made e sums old = record { sums_new = sums; new_multipliers = λ k l. absurd (omega (arith, l)); old_multipliers = λ k l m. old k m }

-- what multiplier i is moved to before it is clamped
abbrev pub moved_to : Numbers → List ℤ → Iterate → ℕ → ℤ
moved_to c state made i = at made.multipliers i +ℤ floor_of (row_sum c state (step_of c state made).plan i) (2 ^ c.fraction_bits)

-- by any expression that makes this
pub moves : (c : Numbers) (state : List ℤ) (made : Iterate) (K : Environment → Type 0) (i : ℕ) (e : Environment) (a : Expression) → StepFits c made → StaysByMoves K → i < length c.bounds →
    Makes e a (moved_to c state made i) (next_magnitude c i) → K e → Moves c state made i e →
    Runs (kinds c (plain_sizes c)) e (Declare (variable Moved i) a ∷ AtLeastZero (variable Moved i) ∷ AtMost (variable Moved i) (top_of c i) ∷ Assign (variable Multiplier i) (Value (variable Moved i)) ∷ [])
    (λ t. K t × Moves c state made (suc i) t)
moves c state made K i e a r stays l m h b =
    let plan = (step_of c state made).plan in
    let P = λ (t : Environment). K t × Moves c state made (suc i) t in
    let next = (step_of c state made).multipliers in
    let old = at made.multipliers i in
    let top = top_of c i in
    let z = moved_to c state made i in
    let new = next_multiplier c state plan old i in
    let whole : next_magnitude c i < 2 ^ 63 = r.next i l in
    let clamp : multiplier_top c i ≤ next_magnitude c i = omega (arith, top_le_clamp c i) in
    let last : unsigned_abs new ≤ multiplier_top c i = abs-clamped_le top z (top_nonneg c i r.nonneg) in
    let same : new ≡ at next i = made_at (λ k. next_multiplier c state plan (at made.multipliers k) k) (length c.bounds) i l in
    let v = variable Moved i in
    move_runs (kinds c (plain_sizes c)) e a v (variable Multiplier i) z top (next_magnitude c i) [] P m
    (omega (arith, clamp, whole))
    (kind_fits (next_magnitude c i) z m.within whole)
    (kind_fits (next_magnitude c i) (int_max z (pos 0)) (abs_raised_le z (next_magnitude c i) m.within) whole)
    (kind_fits (next_magnitude c i) new (omega (arith, last, clamp)) whole)
    (kind_fits (multiplier_top c i) new last (omega (arith, clamp, whole)))
    (fits64 new (omega (arith, last, clamp, whole)))
    (λ x1 x2 x3 y is.
    let e1 = with_value e v x1 in
    let e2 = with_value e1 v x2 in
    let e3 = with_value e2 v x3 in
    runs_none (kinds c (plain_sizes c)) _ P (
      stays.multiplier e3 i y (stays.moved e2 i x3 (stays.moved e1 i x2 (stays.moved e i x1 h))),
      record {
        sums_new = b.sums_new;
        new_multipliers = put (e Multiplier) (at next) i y (is ∙ same) b.new_multipliers;
        old_multipliers = kept (e Multiplier) (at made.multipliers) i (length c.bounds) y b.old_multipliers;
      },
    ))

-- ---- the whole step of the program in one part
pub record StepReady (c : Numbers) (state : List ℤ) (made : Iterate) : Type 0 where
  pub ready : Ready c state
  pub fits : StepFits c made

plan_ready : (c : Numbers) (state : List ℤ) (made : Iterate) → StepReady c state made → PlanReady c state made.multipliers
plan_ready c state made r = record { ready = r.ready; ranges = r.fits.ranges; room = λ j l. omega (arith, r.fits.sums j l, r.fits.room j l) }

-- the plan is made
abbrev IsAtPlan : Numbers → List ℤ → Iterate → Environment → Type 0
IsAtPlan c state made e = Rows c state (step_of c state made).plan 0 e × ((i : ℕ) → i < length c.bounds → e Multiplier i ≡ at made.multipliers i)

at_plan : (c : Numbers) (state : List ℤ) (made : Iterate) (e : Environment) → StepReady c state made → Plans c state made.multipliers (AreSummed c made.sums) (length c.offsets) e → IsAtPlan c state made e
at_plan c state made e r s =
    (record { entry_bases = s.bases.entries; planned = is_planned c state made.multipliers (AreSummed c made.sums) e (plan_ready c state made r) s; gradients = λ k l. absurd (omega (arith, l)) }, s.multipliers)

has_plan : (c : Numbers) (state : List ℤ) (made : Iterate) → StepReady c state made → HasPlan c (step_of c state made).plan (IsAtPlan c state made)
has_plan c state made r = record {
  within = plan_within c state (raised c made.multipliers) r.ready.within (raised_within c made.multipliers r.ready.nonneg r.fits.ranges.tops);
  entries = λ e h. h.0.planned.entries;
  stays = λ e j z h. ((rows_stay c state (step_of c state made).plan 0).sum e j z h.0, h.1);
}

one_moves : (c : Numbers) (state : List ℤ) (made : Iterate) (i : ℕ) (e : Environment) → StepReady c state made → i < length c.bounds →
    Summed c state (step_of c state made).plan (Moves c state made i) i e →
    Runs (kinds c (plain_sizes c)) e (move_statements c i) (λ t. Rows c state (step_of c state made).plan (suc i) t × Moves c state made (suc i) t)
one_moves c state made i e r l s =
    let plan = (step_of c state made).plan in
    let b = s.1 in
    let m = moved_made c state plan made.multipliers e i r.ready l r.fits.ranges.tops s.0.planned.within (row_sum_small c state plan i e r.ready l s.0).within s.2 (b.old_multipliers i (omega arith) l) in
    moves c state made (Rows c state plan (suc i)) i e (moved_expression c i) r.fits (rows_stay c state plan (suc i)) l m s.0 b

pub body_runs : (c : Numbers) (state : List ℤ) (made : Iterate) (e : Environment) → StepReady c state made → Holds c (whole_bases c state) made e →
    Runs (kinds c (plain_sizes c)) e (repetition_body c) (Holds c (whole_bases c state) (step_of c state made))
body_runs c state made e r h =
    let p = length c.offsets in
    let m = length c.bounds in
    let sizes = plain_sizes c in
    let kind = kinds c sizes in
    let F = AreSummed c made.sums in
    let used = made.multipliers in
    let plan = (step_of c state made).plan in
    let ready = plan_ready c state made r in
    let K = IsAtPlan c state made in
    let A = λ (t : Environment). K t × AreSummed c (step_of c state made).sums t in
    let one = plan_begins c sizes state used F ready (summed_stays c made.sums) e h.bases h.multipliers h.sums in
    let two = runs_append kind e _ (groups (entry_statements c) p) (Plans c state used F 0) (Plans c state used F p) one (λ t s. entries_run c sizes state used F ready (summed_stays c made.sums) t s) in
    let three = runs_append kind e _ (groups sum_statements p) (Plans c state used F p) A two
    (λ t s. sums_run c state made K t r.fits (has_plan c state made r) (at_plan c state made t r s) s.beside) in
    let R = λ (t : Environment). Rows c state plan m t × Moves c state made m t in
    let four = runs_append kind e _ (groups (row_statements c) m) A R three
    (λ t s. rows_run c sizes state plan (Moves c state made) (move_statements c) r.ready (moves_stay c state made) (λ k u l v. one_moves c state made k u r l v) t
    (s.0.0, moves_none c state made t s.1 s.0.1)) in
    let s = four.ends in record {
      defined = four.defined;
      ends = record { bases = record { entries = s.0.entry_bases; rows = s.0.planned.bases }; multipliers = s.1.new_multipliers; sums = s.1.sums_new };
    }
