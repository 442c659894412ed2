-- The statements before the loop of a program in parts: the state is loaded, and what it adds to each plan entry and each row is made once, in two parts.
use Rattle.std.proofs.Common.{◌≡◌, ℕ, zero, suc, ◌<◌, ℤ, pos, List, [], ◌∷◌, ◌++◌, length, refl, sym, subst, arith}
use Rattle.std.proofs.lemmas.Bool.{cond_both}
use Rattle.integer_algebra.specs.Sums.{at}
use Rattle.qp_model.specs.machine.Controller.{Numbers}
use Rattle.qp_model.specs.machine.Machine.{loaded}
use Rattle.qp_model.specs.machine.ValuesMet.{FitsWidth}
use Rattle.overflow_check.specs.declared.machine.Machine.{Machine}
use Rattle.overflow_check.specs.declared.machine.Machine.TheVariants.{Plain, Accelerated}
use Rattle.c_language.specs.Syntax.{Variable, variable, Kind, bits_of, Statement, groups}
use Rattle.c_language.specs.Syntax.Family.{Loaded, EntryBase, RowBase, Multiplier, Sum, Own, Reached, EntryBaseHigh, RowBaseHigh}
use Rattle.c_language.specs.Meaning.{Environment, with_value, new_value, variable_of, done, IsDone, AreDone, begun}
use Rattle.c_language.proofs.Runs.{Runs, runs_none, runs_append, runs_groups, groups_none, groups_more}
use Rattle.c_program.specs.Of.{multiplier_top, loaded_statements, zero_statements, has_short_divisor}
use Rattle.c_program.specs.FastOf.{first_scale_lines, first_scale, first_weight}
use Rattle.c_program.specs.ByMachine.{sizes_for, start_for}
use Rattle.c_program.specs.InParts.{parted_entry_base, parted_row_base, parted_before, parted_kinds}
use Rattle.c_program.proofs.Terms.{fits64}
use Rattle.c_program.proofs.Before.{OfBases, kinds, runs_next, runs_one, put, zero_fits, Loads, loads_run, StaysAtStart, FastBegun, start_runs}
use Rattle.c_program.proofs.PartedSums.{PartedReady, entry_base_high, entry_base_low, row_base_high, row_base_low, entry_base_high_made, entry_base_low_made, row_base_high_made, row_base_low_made}

-- ---- the same statements with other types
-- of the variables that they give values, each has the same
abbrev pub HaveKinds : (kind other : Variable → Kind) → List Statement → Type 0
HaveKinds kind other [] = Unit {0}
HaveKinds kind other (s ∷ ss) = (kind (variable_of s) ≡ other (variable_of s)) × HaveKinds kind other ss

done_as : (kind other : Variable → Kind) (e : Environment) (ss : List Statement) → HaveKinds kind other ss → AreDone kind e ss → AreDone other e ss
unfolding AreDone
done_as kind other e [] same d = tt
done_as kind other e (s ∷ ss) same d =
    let first : IsDone other e s = record { operands = d.0.operands; fits = subst (λ (k : Kind). FitsWidth (bits_of k) (new_value e s)) same.0 d.0.fits } in
    (first, done_as kind other (done e s) ss same.1 d.1)

pub runs_as : (kind other : Variable → Kind) (e : Environment) (ss : List Statement) (P : Environment → Type 0) → HaveKinds kind other ss → Runs kind e ss P → Runs other e ss P
runs_as kind other e ss P same r = record { defined = done_as kind other e ss same r.defined; ends = r.ends }

pub kinds_append : (kind other : Variable → Kind) (xs ys : List Statement) → HaveKinds kind other xs → HaveKinds kind other ys → HaveKinds kind other (xs ++ ys)
kinds_append kind other [] ys h k = k
kinds_append kind other (x ∷ xs) ys h k = (h.0, kinds_append kind other xs ys h.1 k)

pub kinds_groups : (kind other : Variable → Kind) (f : ℕ → List Statement) (n : ℕ) → ((i : ℕ) → HaveKinds kind other (f i)) → HaveKinds kind other (groups f n)
kinds_groups kind other f zero h = subst (HaveKinds kind other) (sym (groups_none f)) tt
kinds_groups kind other f (suc n) h = subst (HaveKinds kind other) (sym (groups_more f n)) (kinds_append kind other (groups f n) (f n) (kinds_groups kind other f n h) (h n))

-- ---- what the state adds, in two parts
pub record ArePartedBases (c : Numbers) (state : List ℤ) (entry row high_entry high_row : ℕ → ℤ) : Type 0 where
  pub entries : (j : ℕ) → j < length c.offsets → entry j ≡ entry_base_low c state j
  pub rows : (i : ℕ) → i < length c.bounds → row i ≡ row_base_low c state i
  pub high_entries : (j : ℕ) → j < length c.offsets → high_entry j ≡ entry_base_high c state j
  pub high_rows : (i : ℕ) → i < length c.bounds → high_row i ≡ row_base_high c state i

abbrev pub parted_bases : Numbers → List ℤ → OfBases
parted_bases c state entry row high_entry high_row = ArePartedBases c state entry row high_entry high_row

-- what the variables hold, so many of each family
pub record PartedBegins (c : Numbers) (xi : List ℤ) (b d f g : ℕ) (e : Environment) : Type 0 where
  pub inputs : (k : ℕ) → k < c.states → e Loaded k ≡ at (loaded c xi) k
  pub entries : (j : ℕ) → j < b → e EntryBase j ≡ entry_base_low c (loaded c xi) j
  pub high_entries : (j : ℕ) → j < b → e EntryBaseHigh j ≡ entry_base_high c (loaded c xi) j
  pub rows : (i : ℕ) → i < d → e RowBase i ≡ row_base_low c (loaded c xi) i
  pub high_rows : (i : ℕ) → i < d → e RowBaseHigh i ≡ row_base_high c (loaded c xi) i
  pub multipliers : (i : ℕ) → i < f → e Multiplier i ≡ pos 0
  pub sums : (j : ℕ) → j < g → e Sum j ≡ pos 0

loading : (m : Machine) (c : Numbers) (xi : List ℤ) → PartedReady m c (loaded c xi) → Runs (parted_kinds m c) (begun xi) (groups (loaded_statements c) c.states) (PartedBegins c xi 0 0 0 0)
loading m c xi r =
    let kind = kinds c (sizes_for m c) in
    let same = kinds_groups kind (parted_kinds m c) (loaded_statements c) c.states (λ k. (refl, tt)) in
    let plain = loads_run c (sizes_for m c) xi (record { short = r.short; within = r.within; long = r.long; room = λ k l. omega (arith, r.parts.states k l) }) in
    let one = runs_as kind (parted_kinds m c) (begun xi) (groups (loaded_statements c) c.states) (Loads c xi c.states) same plain in
    record {
      defined = one.defined;
      ends = record {
        inputs = one.ends.inputs;
        entries = λ k l. absurd (omega (arith, l));
        high_entries = λ k l. absurd (omega (arith, l));
        rows = λ k l. absurd (omega (arith, l));
        high_rows = λ k l. absurd (omega (arith, l));
        multipliers = λ k l. absurd (omega (arith, l));
        sums = λ k l. absurd (omega (arith, l));
      };
    }

entry_base_runs : (m : Machine) (c : Numbers) (xi : List ℤ) (j : ℕ) (e : Environment) → PartedReady m c (loaded c xi) → j < length c.offsets → PartedBegins c xi j 0 0 0 e →
    Runs (parted_kinds m c) e (parted_entry_base c j) (PartedBegins c xi (suc j) 0 0 0)
entry_base_runs m c xi j e r l b =
    let state = loaded c xi in
    let P = PartedBegins c xi (suc j) 0 0 0 in
    let high = entry_base_high c state j in
    let low = entry_base_low c state j in
    let first = entry_base_high_made m c state e j r l b.inputs in
    let e1 = with_value e (variable EntryBaseHigh j) high in
    let second = entry_base_low_made m c state e1 j r l b.inputs in
    runs_next (parted_kinds m c) e _ _ high P first.defined first.is (fits64 high (omega (arith, first.within)))
    (runs_one (parted_kinds m c) e1 _ low P second.defined second.is (fits64 low (omega (arith, second.within)))
    (record {
      inputs = b.inputs;
      entries = put (e EntryBase) (entry_base_low c state) j low refl b.entries;
      high_entries = put (e EntryBaseHigh) (entry_base_high c state) j high refl b.high_entries;
      rows = b.rows;
      high_rows = b.high_rows;
      multipliers = b.multipliers;
      sums = b.sums;
    }))

row_base_runs : (m : Machine) (c : Numbers) (xi : List ℤ) (i : ℕ) (e : Environment) → PartedReady m c (loaded c xi) → i < length c.bounds → PartedBegins c xi (length c.offsets) i 0 0 e →
    Runs (parted_kinds m c) e (parted_row_base c i) (PartedBegins c xi (length c.offsets) (suc i) 0 0)
row_base_runs m c xi i e r l b =
    let state = loaded c xi in
    let P = PartedBegins c xi (length c.offsets) (suc i) 0 0 in
    let high = row_base_high c state i in
    let low = row_base_low c state i in
    let first = row_base_high_made m c state e i r l b.inputs in
    let e1 = with_value e (variable RowBaseHigh i) high in
    let second = row_base_low_made m c state e1 i r l b.inputs in
    runs_next (parted_kinds m c) e _ _ high P first.defined first.is (fits64 high (omega (arith, first.within)))
    (runs_one (parted_kinds m c) e1 _ low P second.defined second.is (fits64 low (omega (arith, second.within)))
    (record {
      inputs = b.inputs;
      entries = b.entries;
      high_entries = b.high_entries;
      rows = put (e RowBase) (row_base_low c state) i low refl b.rows;
      high_rows = put (e RowBaseHigh) (row_base_high c state) i high refl b.high_rows;
      multipliers = b.multipliers;
      sums = b.sums;
    }))

-- ---- zeros
multiplier_runs : (m : Machine) (c : Numbers) (xi : List ℤ) (i : ℕ) (e : Environment) → PartedBegins c xi (length c.offsets) (length c.bounds) i 0 e →
    Runs (parted_kinds m c) e (zero_statements Multiplier i) (PartedBegins c xi (length c.offsets) (length c.bounds) (suc i) 0)
multiplier_runs m c xi i e b =
    runs_one (parted_kinds m c) e _ (pos 0) (PartedBegins c xi (length c.offsets) (length c.bounds) (suc i) 0) (omega arith) refl (zero_fits (multiplier_top c i))
    (record {
      inputs = b.inputs;
      entries = b.entries;
      high_entries = b.high_entries;
      rows = b.rows;
      high_rows = b.high_rows;
      multipliers = put (e Multiplier) (λ k. pos 0) i _ refl b.multipliers;
      sums = b.sums;
    })

sum_runs : (m : Machine) (c : Numbers) (xi : List ℤ) (j : ℕ) (e : Environment) → PartedBegins c xi (length c.offsets) (length c.bounds) (length c.bounds) j e →
    Runs (parted_kinds m c) e (zero_statements Sum j) (PartedBegins c xi (length c.offsets) (length c.bounds) (length c.bounds) (suc j))
sum_runs m c xi j e b =
    runs_one (parted_kinds m c) e _ (pos 0) (PartedBegins c xi (length c.offsets) (length c.bounds) (length c.bounds) (suc j)) (omega arith) refl (zero_fits ((sizes_for m c).sum j))
    (record {
      inputs = b.inputs;
      entries = b.entries;
      high_entries = b.high_entries;
      rows = b.rows;
      high_rows = b.high_rows;
      multipliers = b.multipliers;
      sums = put (e Sum) (λ k. pos 0) j _ refl b.sums;
    })

-- ---- all
abbrev pub AllPartedBegun : Numbers → List ℤ → Environment → Type 0
AllPartedBegun c xi = PartedBegins c xi (length c.offsets) (length c.bounds) (length c.bounds) (length c.offsets)

all_stay : (c : Numbers) (xi : List ℤ) → StaysAtStart (AllPartedBegun c xi)
all_stay c xi = record {
  own = λ e i z h. record { inputs = h.inputs; entries = h.entries; high_entries = h.high_entries; rows = h.rows; high_rows = h.high_rows; multipliers = h.multipliers; sums = h.sums };
  reached = λ e i z h. record { inputs = h.inputs; entries = h.entries; high_entries = h.high_entries; rows = h.rows; high_rows = h.high_rows; multipliers = h.multipliers; sums = h.sums };
  weight = λ e i z h. record { inputs = h.inputs; entries = h.entries; high_entries = h.high_entries; rows = h.rows; high_rows = h.high_rows; multipliers = h.multipliers; sums = h.sums };
  shift = λ e i z h. record { inputs = h.inputs; entries = h.entries; high_entries = h.high_entries; rows = h.rows; high_rows = h.high_rows; multipliers = h.multipliers; sums = h.sums };
  power = λ e i z h. record { inputs = h.inputs; entries = h.entries; high_entries = h.high_entries; rows = h.rows; high_rows = h.high_rows; multipliers = h.multipliers; sums = h.sums };
}

-- what holds before the loop
abbrev pub Started : Machine → Numbers → List ℤ → Environment → Type 0
Started Plain c xi e = AllPartedBegun c xi e
Started Accelerated c xi e = FastBegun c (AllPartedBegun c xi) e

starting : (m : Machine) (c : Numbers) (xi : List ℤ) (e : Environment) → AllPartedBegun c xi e → Runs (parted_kinds m c) e (start_for m c) (Started m c xi)
starting Plain c xi e h = runs_none (parted_kinds Plain c) e (AllPartedBegun c xi) h
starting Accelerated c xi e h =
    let kind = kinds c (sizes_for Accelerated c) in
    let other = parted_kinds Accelerated c in
    let own = groups (zero_statements Own) (length c.bounds) in
    let reached = groups (zero_statements Reached) (length c.bounds) in
    let w = first_weight ∷ [] in
    let scale : HaveKinds kind other (first_scale c) = cond_both (has_short_divisor c) first_scale_lines [] (HaveKinds kind other) (λ t. (refl, (refl, tt))) (λ f. tt) in
    let same = kinds_append kind other (own ++ reached ++ w) (first_scale c)
    (kinds_append kind other (own ++ reached) w
    (kinds_append kind other own reached (kinds_groups kind other (zero_statements Own) (length c.bounds) (λ i. (refl, tt))) (kinds_groups kind other (zero_statements Reached) (length c.bounds) (λ i. (refl, tt))))
    (refl, tt)) scale in
    runs_as kind other e (start_for Accelerated c) (Started Accelerated c xi) same (start_runs c (sizes_for Accelerated c) (AllPartedBegun c xi) e (all_stay c xi) h)

pub parted_before_runs : (m : Machine) (c : Numbers) (xi : List ℤ) → PartedReady m c (loaded c xi) → Runs (parted_kinds m c) (begun xi) (parted_before m c) (Started m c xi)
parted_before_runs machine c xi r =
    let kind = parted_kinds machine c in
    let p = length c.offsets in
    let m = length c.bounds in
    let P = PartedBegins c xi in
    let two = runs_append kind (begun xi) _ (groups (parted_entry_base c) p) (P 0 0 0 0) (P p 0 0 0) (loading machine c xi r)
    (λ e b. runs_groups kind (parted_entry_base c) (λ k. P k 0 0 0) p e b (λ k t l h. entry_base_runs machine c xi k t r l h)) in
    let three = runs_append kind (begun xi) _ (groups (parted_row_base c) m) (P p 0 0 0) (P p m 0 0) two
    (λ e b. runs_groups kind (parted_row_base c) (λ k. P p k 0 0) m e b (λ k t l h. row_base_runs machine c xi k t r l h)) in
    let four = runs_append kind (begun xi) _ (groups (zero_statements Multiplier) m) (P p m 0 0) (P p m m 0) three
    (λ e b. runs_groups kind (zero_statements Multiplier) (λ k. P p m k 0) m e b (λ k t l h. multiplier_runs machine c xi k t h)) in
    let five = runs_append kind (begun xi) _ (groups (zero_statements Sum) p) (P p m m 0) (P p m m p) four
    (λ e b. runs_groups kind (zero_statements Sum) (λ k. P p m m k) p e b (λ k t l h. sum_runs machine c xi k t h)) in
    runs_append kind (begun xi) _ (start_for machine c) (P p m m p) (Started machine c xi) five (λ e b. starting machine c xi e b)
