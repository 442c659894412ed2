-- A step's plan and its rows' sums in two parts: they are made in one way of the multipliers of the plain machine and of the means of the accelerated one.
use Rattle.std.proofs.Common.{◌≡◌, ℕ, suc, ◌^◌, ◌<◌, true, false, ℤ, pos, List, [], ◌∷◌, ◌++◌, length, refl, ap, arith}
use Rattle.std.proofs.lemmas.Bool.{cond_both, both_ways}
use Rattle.integer_algebra.specs.Division.{floor_of}
use Rattle.integer_algebra.specs.Sums.{at}
use Rattle.qp_model.specs.machine.Controller.{Numbers}
use Rattle.qp_model.specs.machine.Machine.{raised, plan_entry, plan_of, row_sum}
use Rattle.qp_model.specs.machine.AbsoluteSums.{plan_magnitudes}
use Rattle.qp_model.specs.machine.Within.{AreWithin}
use Rattle.qp_model.proofs.MagnitudeLaws.{top_le_clamp, raised_within, plan_within}
use Rattle.overflow_check.specs.declared.machine.Machine.{Machine}
use Rattle.c_language.specs.Syntax.{variable, Statement, groups}
use Rattle.c_language.specs.Syntax.Family.{Multiplier, Entry, Gradient, RowSum, Moved, Sum, Own, Reached, MultiplierHigh, MultiplierLow, EntryHigh, EntryLow, GradientHigh}
use Rattle.c_language.specs.Syntax.Expression.{Constant}
use Rattle.c_language.specs.Syntax.Statement.{Declare}
use Rattle.c_language.specs.Meaning.{Environment, with_value}
use Rattle.c_language.proofs.Runs.{Runs, runs_none, runs_append, runs_groups, held_new}
use Rattle.c_program.specs.Of.{multiplier_top, entry_top, is_first, is_second, gain_variable, difference_statements}
use Rattle.c_program.specs.ByMachine.{sizes_for}
use Rattle.c_program.specs.InParts.{high_part, low_part, part_statements, gain_parts, parted_entry_statements, plus_entries, parted_gradient, parted_row, parted_kinds}
use Rattle.c_program.proofs.Terms.{fits64, kind_fits}
use Rattle.c_program.proofs.Pairs.{Stand, AreMultipliers}
use Rattle.c_program.proofs.Before.{held_bases, kinds, runs_next, runs_one, put, put_when, skip_when, put_where, skip_where}
use Rattle.c_program.proofs.Planning.{made_at, Differs, differences_run, StaysBeside, StaysByMoves}
use Rattle.c_program.proofs.PartedBefore.{parted_bases, HaveKinds, runs_as, kinds_groups}
use Rattle.c_program.proofs.PartedNumbers.{high_fits, low_fits, high_made, low_made}
use Rattle.c_program.proofs.PartedSums.{PartedReady, gained, gained_held, gained_le, ArePartedGains, parted_entry_made, IsPartedPlan, planned_high, planned_low, gradient_high_made, gradient_low_made, ArePartedShared, parted_row_made, parted_row_fits}

-- ---- the differences and their parts
-- the multipliers or the means that a plan is made at; so many have their parts
pub record Gains (c : Numbers) (state used : List ℤ) (F : Environment → Type 0) (g : ℕ) (e : Environment) : Type 0 where
  pub bases : held_bases (parted_bases c state) e
  pub stand : Stand c used e
  pub gains : ArePartedGains c used e g
  pub beside : F e

differences_kinds : (m : Machine) (c : Numbers) → HaveKinds (kinds c (sizes_for m c)) (parted_kinds m c) (groups (difference_statements c) (length c.bounds))
differences_kinds m c =
    let kind = kinds c (sizes_for m c) in
    let other = parted_kinds m c in
    kinds_groups kind other (difference_statements c) (length c.bounds) (λ i. cond_both (is_first c i) _ _ (HaveKinds kind other) (λ t. (refl, tt)) (λ f. tt))

pub differences_parted : (m : Machine) (c : Numbers) (state used : List ℤ) (F : Environment → Type 0) → PartedReady m c state → AreMultipliers c used → StaysBeside F → (e : Environment) →
    held_bases (parted_bases c state) e → ((i : ℕ) → i < length c.bounds → e Multiplier i ≡ at used i) → F e →
    Runs (parted_kinds m c) e (groups (difference_statements c) (length c.bounds)) (Gains c state used F 0)
differences_parted m c state used F r ranges stays e bases multipliers beside =
    let B = λ (t : Environment). held_bases (parted_bases c state) t × F t in
    let first : Differs c used B 0 e = record { multipliers = multipliers; differences = λ k l. absurd (omega (arith, l)); beside = (bases, beside) } in
    let plain = differences_run c (sizes_for m c) used B ranges (λ i l. omega (arith, r.next i l)) (λ t i z h. (h.0, stays.difference t i z h.1)) e first in
    let one = runs_as (kinds c (sizes_for m c)) (parted_kinds m c) e (groups (difference_statements c) (length c.bounds)) (Differs c used B (length c.bounds)) (differences_kinds m c) plain in
    let s = one.ends in record {
      defined = one.defined;
      ends = record {
        bases = s.beside.0;
        stand = record { alone = s.multipliers; pairs = s.differences };
        gains = record { high = λ k l. absurd (omega (arith, l)); low = λ k l. absurd (omega (arith, l)) };
        beside = s.beside.1;
      };
    }

parts_run : (m : Machine) (c : Numbers) (state used : List ℤ) (F : Environment → Type 0) (i : ℕ) (e : Environment) → PartedReady m c state → AreMultipliers c used → StaysBeside F → i < length c.bounds →
    Gains c state used F i e → Runs (parted_kinds m c) e (part_statements (gain_variable c i) (variable MultiplierHigh i) (variable MultiplierLow i)) (Gains c state used F (suc i))
parts_run m c state used F i e r ranges stays l s =
    let P = Gains c state used F (suc i) in
    let free = λ (k : ℕ). is_second c k ≡ false in
    let z = gained c used i in
    let within = gained_le c used i ranges in
    let top : multiplier_top c i < 2 ^ 63 = omega (arith, top_le_clamp c i, r.next i l) in
    let first = high_made e (gain_variable c i) z (multiplier_top c i) (gained_held c used e i l s.stand) within top in
    let e1 = with_value e (variable MultiplierHigh i) (high_part z) in
    let stand : Stand c used e1 = record { alone = s.stand.alone; pairs = s.stand.pairs } in
    let second = low_made e1 (gain_variable c i) (variable MultiplierHigh i) z (gained_held c used e1 i l stand) (held_new e (variable MultiplierHigh i) (high_part z)) (omega (arith, within, top)) in
    runs_next (parted_kinds m c) e _ _ (high_part z) P first.defined first.is (high_fits (multiplier_top c i) z within top)
    (runs_one (parted_kinds m c) e1 _ (low_part z) P second.defined second.is (low_fits z)
    (record {
      bases = s.bases;
      stand = record { alone = s.stand.alone; pairs = s.stand.pairs };
      gains = record {
        high = put_when free (e MultiplierHigh) (λ k. high_part (gained c used k)) i (high_part z) refl s.gains.high;
        low = put_when free (e MultiplierLow) (λ k. low_part (gained c used k)) i (low_part z) refl s.gains.low;
      };
      beside = stays.multiplier_low e1 i (low_part z) (stays.multiplier_high e i (high_part z) s.beside);
    }))

gain_runs : (m : Machine) (c : Numbers) (state used : List ℤ) (F : Environment → Type 0) (i : ℕ) (e : Environment) → PartedReady m c state → AreMultipliers c used → StaysBeside F → i < length c.bounds →
    Gains c state used F i e → Runs (parted_kinds m c) e (gain_parts c i) (Gains c state used F (suc i))
gain_runs m c state used F i e r ranges stays l s =
    let P = Gains c state used F (suc i) in
    let free = λ (k : ℕ). is_second c k ≡ false in
    cond_both (is_second c i) [] (part_statements (gain_variable c i) (variable MultiplierHigh i) (variable MultiplierLow i)) (λ ss. Runs (parted_kinds m c) e ss P)
    (λ t.
    let none : ¬ (is_second c i ≡ false) = λ f. both_ways (is_second c i) f t in
    runs_none (parted_kinds m c) e P (record {
      bases = s.bases;
      stand = s.stand;
      gains = record {
        high = skip_when free (e MultiplierHigh) (λ k. high_part (gained c used k)) i none s.gains.high;
        low = skip_when free (e MultiplierLow) (λ k. low_part (gained c used k)) i none s.gains.low;
      };
      beside = s.beside;
    }))
    (λ f. parts_run m c state used F i e r ranges stays l s)

pub gains_run : (m : Machine) (c : Numbers) (state used : List ℤ) (F : Environment → Type 0) → PartedReady m c state → AreMultipliers c used → StaysBeside F → (e : Environment) → Gains c state used F 0 e →
    Runs (parted_kinds m c) e (groups (gain_parts c) (length c.bounds)) (Gains c state used F (length c.bounds))
gains_run m c state used F r ranges stays e s =
    runs_groups (parted_kinds m c) (gain_parts c) (Gains c state used F) (length c.bounds) e s (λ k t l h. gain_runs m c state used F k t r ranges stays l h)

-- ---- the plan
-- so many of its entries are new, with their parts
pub record PartedPlans (c : Numbers) (state used : List ℤ) (F : Environment → Type 0) (a : ℕ) (e : Environment) : Type 0 where
  pub bases : held_bases (parted_bases c state) e
  pub multipliers : (i : ℕ) → i < length c.bounds → e Multiplier i ≡ at used i
  pub gains : ArePartedGains c used e (length c.bounds)
  pub entries : (j : ℕ) → j < a → e Entry j ≡ at (plan_of c state (raised c used)) j
  pub high_entries : (j : ℕ) → j < a → e EntryHigh j ≡ high_part (at (plan_of c state (raised c used)) j)
  pub low_entries : (j : ℕ) → j < a → e EntryLow j ≡ low_part (at (plan_of c state (raised c used)) j)
  pub beside : F e

entry_runs : (m : Machine) (c : Numbers) (state used : List ℤ) (F : Environment → Type 0) (j : ℕ) (e : Environment) → PartedReady m c state → AreMultipliers c used → StaysBeside F → j < length c.offsets →
    PartedPlans c state used F j e → Runs (parted_kinds m c) e (parted_entry_statements c j) (PartedPlans c state used F (suc j))
entry_runs m c state used F j e r ranges stays l s =
    let kind = parted_kinds m c in
    let P = PartedPlans c state used F (suc j) in
    let plan = plan_of c state (raised c used) in
    let z = plan_entry c state (raised c used) j in
    let made = parted_entry_made m c state used e j r l ranges (s.bases.high_entries j l) (s.bases.entries j l) s.gains in
    let top : entry_top c j < 2 ^ 63 = r.tops j l in
    let same : z ≡ at plan j = made_at (plan_entry c state (raised c used)) (length c.offsets) j l in
    let e1 = with_value e (variable Entry j) z in
    let first = high_made e1 (variable Entry j) z (entry_top c j) (held_new e (variable Entry j) z) made.within top in
    let e2 = with_value e1 (variable EntryHigh j) (high_part z) in
    let second = low_made e2 (variable Entry j) (variable EntryHigh j) z (held_new e (variable Entry j) z) (held_new e1 (variable EntryHigh j) (high_part z)) (omega (arith, made.within, top)) in
    runs_next kind e _ _ z P made.defined made.is (kind_fits (entry_top c j) z made.within top)
    (runs_next kind e1 _ _ (high_part z) P first.defined first.is (high_fits (entry_top c j) z made.within top)
    (runs_one kind e2 _ (low_part z) P second.defined second.is (low_fits z)
    (record {
      bases = s.bases;
      multipliers = s.multipliers;
      gains = record { high = s.gains.high; low = s.gains.low };
      entries = put (e Entry) (at plan) j z same s.entries;
      high_entries = put (e EntryHigh) (λ k. high_part (at plan k)) j (high_part z) (ap high_part same) s.high_entries;
      low_entries = put (e EntryLow) (λ k. low_part (at plan k)) j (low_part z) (ap low_part same) s.low_entries;
      beside = stays.entry_low e2 j (low_part z) (stays.entry_high e1 j (high_part z) (stays.entry e j z s.beside));
    })))

pub plan_parted : (m : Machine) (c : Numbers) (state used : List ℤ) (F : Environment → Type 0) → PartedReady m c state → AreMultipliers c used → StaysBeside F → (e : Environment) →
    Gains c state used F (length c.bounds) e → Runs (parted_kinds m c) e (groups (parted_entry_statements c) (length c.offsets)) (PartedPlans c state used F (length c.offsets))
plan_parted m c state used F r ranges stays e s =
    runs_groups (parted_kinds m c) (parted_entry_statements c) (PartedPlans c state used F) (length c.offsets) e
    (record {
      bases = s.bases;
      multipliers = s.stand.alone;
      gains = s.gains;
      entries = λ k l. absurd (omega (arith, l));
      high_entries = λ k l. absurd (omega (arith, l));
      low_entries = λ k l. absurd (omega (arith, l));
      beside = s.beside;
    }) (λ k t l h. entry_runs m c state used F k t r ranges stays l h)

pub plan_is_within : (m : Machine) (c : Numbers) (state used : List ℤ) → PartedReady m c state → AreMultipliers c used → AreWithin (plan_of c state (raised c used)) (plan_magnitudes c)
plan_is_within m c state used r ranges = plan_within c state (raised c used) r.within (raised_within c used r.nonneg ranges.tops)

-- ---- the rows
-- so many gradients are new
pub record PartedRows (c : Numbers) (state plan : List ℤ) (g : ℕ) (e : Environment) : Type 0 where
  pub bases : held_bases (parted_bases c state) e
  pub entries : (j : ℕ) → j < length c.offsets → e Entry j ≡ at plan j
  pub planned : IsPartedPlan c state plan e
  pub gradients : ArePartedShared c plan e g

-- what they are made from is there after the plan
pub rows_begin : (m : Machine) (c : Numbers) (state used : List ℤ) (F : Environment → Type 0) (e : Environment) → PartedReady m c state → AreMultipliers c used →
    PartedPlans c state used F (length c.offsets) e → PartedRows c state (plan_of c state (raised c used)) 0 e
rows_begin m c state used F e r ranges s = record {
  bases = s.bases;
  entries = s.entries;
  planned = record {
    high_bases = s.bases.high_rows;
    low_bases = s.bases.rows;
    within = plan_is_within m c state used r ranges;
    high_entries = s.high_entries;
    low_entries = s.low_entries;
  };
  gradients = record { high = λ k l. absurd (omega (arith, l)); low = λ k l. absurd (omega (arith, l)) };
}

-- the same in an environment that holds the same of these families
same_planned : (c : Numbers) (state plan : List ℤ) (e d : Environment) → IsPartedPlan c state plan e → held_bases (parted_bases c state) d →
    ((j : ℕ) → j < length c.offsets → d EntryHigh j ≡ high_part (at plan j)) → ((j : ℕ) → j < length c.offsets → d EntryLow j ≡ low_part (at plan j)) → IsPartedPlan c state plan d
same_planned c state plan e d p bases high low = record { high_bases = bases.high_rows; low_bases = bases.rows; within = p.within; high_entries = high; low_entries = low }

rows_at : (c : Numbers) (state plan : List ℤ) (g : ℕ) (e d : Environment) → PartedRows c state plan g e → held_bases (parted_bases c state) d → ((j : ℕ) → j < length c.offsets → d Entry j ≡ at plan j) →
    ((j : ℕ) → j < length c.offsets → d EntryHigh j ≡ high_part (at plan j)) → ((j : ℕ) → j < length c.offsets → d EntryLow j ≡ low_part (at plan j)) →
    ((k : ℕ) → k < g → is_first c k ≡ true → d GradientHigh k ≡ planned_high c plan k) → ((k : ℕ) → k < g → is_first c k ≡ true → d Gradient k ≡ planned_low c plan k) → PartedRows c state plan g d
rows_at c state plan g e d s bases entries high low first second =
    record { bases = bases; entries = entries; planned = same_planned c state plan e d s.planned bases high low; gradients = record { high = first; low = second } }

pub parted_rows_stay : (c : Numbers) (state plan : List ℤ) (g : ℕ) → StaysByMoves (PartedRows c state plan g)
parted_rows_stay c state plan g = record {
  sum = λ e j z h. rows_at c state plan g e (with_value e (variable Sum j) z) h h.bases h.entries h.planned.high_entries h.planned.low_entries h.gradients.high h.gradients.low;
  moved = λ e i z h. rows_at c state plan g e (with_value e (variable Moved i) z) h h.bases h.entries h.planned.high_entries h.planned.low_entries h.gradients.high h.gradients.low;
  multiplier = λ e i z h. rows_at c state plan g e (with_value e (variable Multiplier i) z) h h.bases h.entries h.planned.high_entries h.planned.low_entries h.gradients.high h.gradients.low;
  own = λ e i z h. rows_at c state plan g e (with_value e (variable Own i) z) h h.bases h.entries h.planned.high_entries h.planned.low_entries h.gradients.high h.gradients.low;
  reached = λ e i z h. rows_at c state plan g e (with_value e (variable Reached i) z) h h.bases h.entries h.planned.high_entries h.planned.low_entries h.gradients.high h.gradients.low;
}

gradient_runs : (m : Machine) (c : Numbers) (state plan : List ℤ) (F : Environment → Type 0) (i : ℕ) (e : Environment) → PartedReady m c state → StaysBeside F → i < length c.bounds →
    PartedRows c state plan i e × F e → Runs (parted_kinds m c) e (parted_gradient c i) (λ t. PartedRows c state plan (suc i) t × F t)
gradient_runs m c state plan F i e r stays l both =
    let kind = parted_kinds m c in
    let P = λ (t : Environment). PartedRows c state plan (suc i) t × F t in
    let s = both.0 in
    let first = is_first c in
    let high = planned_high c plan i in
    let low = planned_low c plan i in
    let one = gradient_high_made m c state plan e i r l s.planned in
    let e1 = with_value e (variable GradientHigh i) high in
    let planned = same_planned c state plan e e1 s.planned s.bases s.planned.high_entries s.planned.low_entries in
    let two = gradient_low_made m c state plan e1 i r l planned in
    cond_both (is_first c i) (Declare (variable GradientHigh i) (plus_entries c i EntryHigh (Constant (pos 0))) ∷ Declare (variable Gradient i) (plus_entries c i EntryLow (Constant (pos 0))) ∷ []) []
    (λ ss. Runs kind e ss P)
    (λ t. runs_next kind e _ _ high P one.defined one.is (fits64 high (omega (arith, one.within)))
    (runs_one kind e1 _ low P two.defined two.is (fits64 low (omega (arith, two.within))) (
      record {
        bases = s.bases;
        entries = s.entries;
        planned = same_planned c state plan e (with_value e1 (variable Gradient i) low) s.planned s.bases s.planned.high_entries s.planned.low_entries;
        gradients = record {
          high = put_where first (e GradientHigh) (planned_high c plan) i high refl s.gradients.high;
          low = put_where first (e Gradient) (planned_low c plan) i low refl s.gradients.low;
        };
      },
      stays.gradient e1 i low (stays.gradient_high e i high both.1),
    )))
    (λ f. runs_none kind e P (
      record {
        bases = s.bases;
        entries = s.entries;
        planned = s.planned;
        gradients = record {
          high = skip_where first (e GradientHigh) (planned_high c plan) i f s.gradients.high;
          low = skip_where first (e Gradient) (planned_low c plan) i f s.gradients.low;
        };
      },
      both.1,
    ))

-- within a row: its sum, over 2^fraction_bits, is new, too
abbrev pub PartedSummed : (c : Numbers) (state plan : List ℤ) (F : Environment → Type 0) (i : ℕ) → Environment → Type 0
PartedSummed c state plan F i e = PartedRows c state plan (suc i) e × F e × (e RowSum i ≡ floor_of (row_sum c state plan i) (2 ^ c.fraction_bits))

row_sum_runs : (m : Machine) (c : Numbers) (state plan : List ℤ) (F : Environment → Type 0) (i : ℕ) (e : Environment) → PartedReady m c state → StaysBeside F → i < length c.bounds →
    PartedRows c state plan (suc i) e × F e → Runs (parted_kinds m c) e (Declare (variable RowSum i) (parted_row c i) ∷ []) (PartedSummed c state plan F i)
row_sum_runs m c state plan F i e r stays l both =
    let s = both.0 in
    let z = floor_of (row_sum c state plan i) (2 ^ c.fraction_bits) in
    let made = parted_row_made m c state plan e i r l s.planned s.gradients in
    runs_one (parted_kinds m c) e _ z (PartedSummed c state plan F i) made.defined made.is (parted_row_fits m c state plan i r l s.planned.within) (
      rows_at c state plan (suc i) e (with_value e (variable RowSum i) z) s s.bases s.entries s.planned.high_entries s.planned.low_entries s.gradients.high s.gradients.low,
      stays.row_sum e i z both.1,
      held_new e (variable RowSum i) z,
    )

-- each row is summed, and then its multiplier moved
pub parted_rows_run : (m : Machine) (c : Numbers) (state plan : List ℤ) (F : ℕ → Environment → Type 0) (move : ℕ → List Statement) → PartedReady m c state → ((i : ℕ) → StaysBeside (F i)) →
    ((i : ℕ) (t : Environment) → i < length c.bounds → PartedSummed c state plan (F i) i t → Runs (parted_kinds m c) t (move i) (λ u. PartedRows c state plan (suc i) u × F (suc i) u)) → (e : Environment) →
    PartedRows c state plan 0 e × F 0 e →
    Runs (parted_kinds m c) e (groups (λ i. parted_gradient c i ++ (Declare (variable RowSum i) (parted_row c i) ∷ []) ++ move i) (length c.bounds))
    (λ u. PartedRows c state plan (length c.bounds) u × F (length c.bounds) u)
parted_rows_run m c state plan F move r stays moves e s =
    let kind = parted_kinds m c in
    let sum = λ (i : ℕ). Declare (variable RowSum i) (parted_row c i) ∷ [] in
    let R = λ (k : ℕ) (n : ℕ) (u : Environment). PartedRows c state plan n u × F k u in
    runs_groups kind (λ i. parted_gradient c i ++ sum i ++ move i) (λ k. R k k) (length c.bounds) e s (λ k u l v.
    runs_append kind u (parted_gradient c k ++ sum k) (move k) (PartedSummed c state plan (F k) k) (R (suc k) (suc k))
    (runs_append kind u (parted_gradient c k) (sum k) (R k (suc k)) (PartedSummed c state plan (F k) k)
    (gradient_runs m c state plan (F k) k u r (stays k) l v) (λ w x. row_sum_runs m c state plan (F k) k w r (stays k) l x)) (λ w x. moves k w l x))
