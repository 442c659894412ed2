-- One repetition of the body makes one step of the accelerated machine.
use Rattle.std.proofs.Common.{◌≡◌, ℕ, suc, ◌+◌, ◌-◌, ◌*◌, ◌^◌, ◌<◌, ◌≤◌, true, ℤ, pos, ◌+ℤ◌, ◌*ℤ◌, ◌≤ℤ◌, List, [], ◌∷◌, length, unsigned_abs, refl, sym, ap, subst, ◌∙◌, arith, le_refl, inl, inr}
use Rattle.std.specs.Int.{int_max}
use Rattle.std.proofs.lemmas.Int.{ints}
use Rattle.std.proofs.lemmas.Nat.{mul-le}
use Rattle.std.proofs.lemmas.Bool.{cases_lt}
use Rattle.std.proofs.lemmas.List.{get_or_past}
use Rattle.std.proofs.lemmas.List.FromFn.{length-map-range_with_len}
use Rattle.integer_algebra.specs.Division.{floor_of, ceil_div}
use Rattle.integer_algebra.specs.Sums.{at}
use Rattle.qp_model.specs.machine.Controller.{Numbers}
use Rattle.qp_model.specs.machine.Machine.{raised, plan_entry, row_sum}
use Rattle.qp_model.specs.machine.AbsoluteSums.{row_absolute_sum}
use Rattle.qp_model.proofs.AbsoluteLaws.{floor_nonneg}
use Rattle.overflow_check.specs.FastMachine.{FastIterate, step_weight, all_weights, mean_divisor, fast_top, mean_at, moved_multiplier, fast_step}
use Rattle.overflow_check.specs.FastController.{moved_magnitude, reached_magnitude, fast_sum_magnitude}
use Rattle.overflow_check.proofs.ValuesMet.{fits_width}
use Rattle.fast_machine.specs.FastReady.{LiesUpTo}
use Rattle.fast_machine.proofs.WeightSums.{more_weights}
use Rattle.fast_machine.proofs.FastRuns.{top_le, top_low, kept_up, mean_up, mean_le, moved_item, moved_long, added_item}
use Rattle.fast_machine.proofs.FastSums.{weights_with, one_weight, weight_le}
use Rattle.qp_model.proofs.MagnitudeLaws.{raised_within, plan_within}
use Rattle.overflow_check.specs.declared.machine.Machine.TheVariants.{Accelerated}
use Rattle.c_language.specs.Syntax.{variable, Expression, groups}
use Rattle.c_language.specs.Syntax.Family.{Entry, RowSum, Moved, Sum, Own, Reached, Weight, Shift, Power}
use Rattle.c_language.specs.Syntax.Expression.{Constant, Value, Plus}
use Rattle.c_language.specs.Syntax.Statement.{Declare, Assign, AtLeastZero, AtMost}
use Rattle.c_language.specs.Meaning.{Environment, with_value}
use Rattle.c_program.specs.Of.{entry_top, multiplier_top, row_bits, lowered_value, difference_statements, entry_statements, has_short_divisor}
use Rattle.c_program.specs.ByMachine.{means_for}
use Rattle.c_program.specs.FastOf.{fast_sizes, weight_value, weighted, divisor_statement, scale_statements, mean_statements, weighted_sum_statements, reached_expression, fast_move_statements, fast_row_statements, next_weight, fast_body}
use Rattle.c_language.proofs.Runs.{Runs, runs_append, runs_groups, held_new}
use Rattle.c_program.proofs.Terms.{Makes, fits64, kind_fits, makes_same, makes_constant, makes_value, makes_plus}
use Rattle.c_program.proofs.Pairs.{AreMultipliers}
use Rattle.c_program.proofs.Parts.{Ready, residual_made}
use Rattle.c_program.proofs.Before.{OfBases, held_bases, whole_bases, kinds, runs_one, put, kept}
use Rattle.c_program.proofs.FastMeans.{FastStepFits, IsScale, ScaledTo, FastHolds, weight_made, weighted_made, used_of, used_at, parts_sum, reached_le, Means, divisor_runs, Reciprocated, scale_runs, next_scale, mean_runs}
use Rattle.c_program.proofs.Planning.{StaysBeside, PlanReady, Plans, plan_begins, entries_run, is_planned, StaysByMoves, abs_raised_le, move_runs, Rows, rows_stay, Summed, rows_run, row_sum_small}
use Rattle.c_program.proofs.Step.{HasPlan}

-- ---- the plan at them
pub used_ranges : (c : Numbers) (k : ℕ) (made : FastIterate) → FastStepFits c k made → AreMultipliers c (used_of c k made)
used_ranges c k made r = record {
  tops = record {
    each = λ i. elim (cases_lt i (length c.bounds)) [
      | inl l ↦ subst (λ (z : ℤ). unsigned_abs z ≤ multiplier_top c i) (used_at c k made i l) (mean_le c k made.multipliers made.reached i r.nonneg r.before.rows l)
      | inr l ↦ subst (λ (z : ℤ). unsigned_abs z ≤ multiplier_top c i) (sym (past i l)) (omega arith)
    ];
  };
  nonneg = λ i. elim (cases_lt i (length c.bounds)) [
    | inl l ↦ subst (λ (z : ℤ). pos 0 ≤ℤ z) (used_at c k made i l)
        (floor_nonneg (at made.reached i +ℤ pos (step_weight k) *ℤ at made.multipliers i) (mean_divisor k) (mean_up c k made.multipliers made.reached i r.before.rows l).low)
    | inr l ↦ subst (λ (z : ℤ). pos 0 ≤ℤ z) (sym (past i l)) (omega (arith, ints))
  ];
}
  where
    past : (i : ℕ) → length c.bounds ≤ i → at (used_of c k made) i ≡ pos 0
    past i l = get_or_past (used_of c k made) i (pos 0) (omega (arith, l, length-map-range_with_len (mean_at k made.multipliers made.reached) 0 (length c.bounds)))

entry_room : (c : Numbers) (k : ℕ) (made : FastIterate) (j : ℕ) → FastStepFits c k made → j < length c.offsets → entry_top c j < 2 ^ 63
entry_room c k made j r l = omega (arith, r.sums j l, mul-le 1 (entry_top c j) (all_weights c.steps) (entry_top c j) (one_weight k c.steps r.inside) (le_refl (entry_top c j)))

-- ---- beside it
pub record AreBeside (c : Numbers) (k : ℕ) (made : FastIterate) (own reached sums weight shift power : ℕ → ℤ) : Type 0 where
  pub own_old : (i : ℕ) → i < length c.bounds → own i ≡ at made.multipliers i
  pub reached_old : (i : ℕ) → i < length c.bounds → reached i ≡ at made.reached i
  pub sums_old : (j : ℕ) → j < length c.offsets → sums j ≡ at made.sums j
  pub weight_is : weight 0 ≡ pos (step_weight k)
  pub scale : has_short_divisor c ≡ true → IsScale (mean_divisor k) 4 (shift 0) (power 0)

abbrev pub Beside : Numbers → ℕ → FastIterate → Environment → Type 0
Beside c k made e = AreBeside c k made (e Own) (e Reached) (e Sum) (e Weight) (e Shift) (e Power)

pub beside_stays : (c : Numbers) (k : ℕ) (made : FastIterate) → StaysBeside (Beside c k made)
beside_stays c k made = record {
  difference = λ e i z h. h;
  entry = λ e j z h. h;
  gradient = λ e i z h. h;
  row_sum = λ e i z h. h;
  multiplier_high = λ e i z h. h;
  multiplier_low = λ e i z h. h;
  entry_high = λ e j z h. h;
  entry_low = λ e j z h. h;
  gradient_high = λ e i z h. h;
}

pub means_beside : (c : Numbers) (B : OfBases) (k : ℕ) (made : FastIterate) (d : ℕ) (e : Environment) → Means c B k made (Reciprocated c (mean_divisor k)) d e → Beside c k made e
means_beside c B k made d e s = record { own_old = s.own; reached_old = s.reached; sums_old = s.sums; weight_is = s.weight; scale = λ t. (s.scale t).0 }

-- ---- the sums
-- so many are new
record FastAdds (c : Numbers) (state : List ℤ) (k : ℕ) (made : FastIterate) (K : Environment → Type 0) (b : ℕ) (e : Environment) : Type 0 where
  beside : K e
  own : (i : ℕ) → i < length c.bounds → e Own i ≡ at made.multipliers i
  reached : (i : ℕ) → i < length c.bounds → e Reached i ≡ at made.reached i
  weight : e Weight 0 ≡ pos (step_weight k)
  scale : ScaledTo c (mean_divisor k) 4 e
  new_sums : (j : ℕ) → j < b → e Sum j ≡ at (fast_step c state k made).sums j
  old_sums : (j : ℕ) → b ≤ j → j < length c.offsets → e Sum j ≡ at made.sums j

plan_long : (c : Numbers) (state : List ℤ) (k : ℕ) (made : FastIterate) → length (fast_step c state k made).plan ≡ length c.offsets
plan_long c state k made = length-map-range_with_len (plan_entry c state (raised c (used_of c k made))) 0 (length c.offsets)

sum_runs : (c : Numbers) (state : List ℤ) (k : ℕ) (made : FastIterate) (K : Environment → Type 0) (j : ℕ) (e : Environment) → FastStepFits c k made → HasPlan c (fast_step c state k made).plan K →
    j < length c.offsets → FastAdds c state k made K j e → Runs (kinds c (fast_sizes c)) e (weighted_sum_statements j) (FastAdds c state k made K (suc j))
sum_runs c state k made K j e r has l s =
    let plan = (fast_step c state k made).plan in
    let old = at made.sums j in
    let u = entry_top c j in
    let z = old +ℤ pos (step_weight k) *ℤ at plan j in
    let fit : all_weights k * u + step_weight k * u ≤ fast_sum_magnitude c j = omega (
      arith,
      parts_sum (all_weights (suc k)) (all_weights k) (step_weight k) u (more_weights k),
      mul-le (all_weights (suc k)) u (all_weights c.steps) u (weights_with k c.steps r.inside) (le_refl u),
    ) in
    let whole : fast_sum_magnitude c j < 2 ^ 63 = r.sums j l in
    let entry = makes_value e (variable Entry j) (at plan j) u (has.entries e s.beside j l) (has.within.each j) (entry_room c k made j r l) in
    let m = makes_plus e _ _ old (pos (step_weight k) *ℤ at plan j) (all_weights k * u) (step_weight k * u)
    (makes_value e (variable Sum j) old (all_weights k * u) (s.old_sums j (omega arith) l) (r.before.entries.each j l) (omega (arith, fit, whole)))
    (weighted_made e k _ _ u (step_weight k * u) (omega (arith, r.inside, r.few)) s.weight entry (le_refl (step_weight k * u)) (omega (arith, fit, whole)))
    (omega (arith, fit, whole)) in
    let same : z ≡ at (fast_step c state k made).sums j = sym (added_item (step_weight k) made.sums plan j (omega (arith, l, plan_long c state k made))) in
    runs_one (kinds c (fast_sizes c)) e _ z (FastAdds c state k made K (suc j)) m.defined m.is
    (kind_fits (fast_sum_magnitude c j) z (omega (arith, m.within, fit)) whole)
    (record {
      beside = has.stays e j z s.beside;
      own = s.own;
      reached = s.reached;
      weight = s.weight;
      scale = s.scale;
      new_sums = put (e Sum) (at (fast_step c state k made).sums) j _ same s.new_sums;
      old_sums = kept (e Sum) (at made.sums) j (length c.offsets) _ s.old_sums;
    })

-- ---- the multipliers
-- beside the rows: so many are new, and so many are added to what is reached
pub record AreFastMoved (c : Numbers) (state : List ℤ) (k : ℕ) (made : FastIterate) (d : ℕ) (own reached sums weight shift power : ℕ → ℤ) : Type 0 where
  pub sums_new : (j : ℕ) → j < length c.offsets → sums j ≡ at (fast_step c state k made).sums j
  pub weight_is : weight 0 ≡ pos (step_weight k)
  pub scale : has_short_divisor c ≡ true → IsScale (mean_divisor k) 4 (shift 0) (power 0)
  pub new_own : (i : ℕ) → i < d → own i ≡ at (fast_step c state k made).multipliers i
  pub old_own : (i : ℕ) → d ≤ i → i < length c.bounds → own i ≡ at made.multipliers i
  pub new_reached : (i : ℕ) → i < d → reached i ≡ at (fast_step c state k made).reached i
  pub old_reached : (i : ℕ) → d ≤ i → i < length c.bounds → reached i ≡ at made.reached i

abbrev pub FastMoves : Numbers → List ℤ → ℕ → FastIterate → ℕ → Environment → Type 0
FastMoves c state k made d e = AreFastMoved c state k made d (e Own) (e Reached) (e Sum) (e Weight) (e Shift) (e Power)

pub moves_stay : (c : Numbers) (state : List ℤ) (k : ℕ) (made : FastIterate) (d : ℕ) → StaysBeside (FastMoves c state k made d)
moves_stay c state k made d = record {
  difference = λ e i z h. h;
  entry = λ e j z h. h;
  gradient = λ e i z h. h;
  row_sum = λ e i z h. h;
  multiplier_high = λ e i z h. h;
  multiplier_low = λ e i z h. h;
  entry_high = λ e j z h. h;
  entry_low = λ e j z h. h;
  gradient_high = λ e i z h. h;
}

-- after the sums no multiplier is new
pub sums_run : (c : Numbers) (state : List ℤ) (k : ℕ) (made : FastIterate) (K : Environment → Type 0) (e : Environment) → FastStepFits c k made → HasPlan c (fast_step c state k made).plan K → K e →
    Beside c k made e → Runs (kinds c (fast_sizes c)) e (groups weighted_sum_statements (length c.offsets)) (λ t. K t × FastMoves c state k made 0 t)
sums_run c state k made K e r has h b =
    let one = runs_groups (kinds c (fast_sizes c)) weighted_sum_statements (FastAdds c state k made K) (length c.offsets) e
    (record {
      beside = h;
      own = b.own_old;
      reached = b.reached_old;
      weight = b.weight_is;
      scale = b.scale;
      new_sums = λ j l. absurd (omega (arith, l));
      old_sums = λ j l m. b.sums_old j m;
    }) (λ j u l v. sum_runs c state k made K j u r has l v) in
    let s = one.ends in record {
      defined = one.defined;
      ends = (
        s.beside,
        record {
          sums_new = s.new_sums;
          weight_is = s.weight;
          scale = s.scale;
          new_own = λ i l. absurd (omega (arith, l));
          old_own = λ i l m. s.own i m;
          new_reached = λ i l. absurd (omega (arith, l));
          old_reached = λ i l m. s.reached i m;
        },
      );
    }

-- what multiplier i is moved to before it is clamped: by any expression that makes what its row moves it by
abbrev pub fast_moved_to : Numbers → List ℤ → ℕ → FastIterate → ℕ → ℤ
fast_moved_to c state k made i = at made.multipliers i +ℤ pos (step_weight k) *ℤ floor_of (row_sum c state (fast_step c state k made).plan i) (2 ^ c.fraction_bits)

pub moved_made : (c : Numbers) (state : List ℤ) (k : ℕ) (made : FastIterate) (i : ℕ) (e : Environment) (a : Expression) → FastStepFits c k made → i < length c.bounds → FastMoves c state k made i e →
    Makes e a (floor_of (row_sum c state (fast_step c state k made).plan i) (2 ^ c.fraction_bits)) (ceil_div (row_absolute_sum c i) (2 ^ c.fraction_bits)) →
    Makes e (Plus (Value (variable Own i)) (weighted a)) (fast_moved_to c state k made i) (moved_magnitude c i)
moved_made c state k made i e a r l b h =
    let most = ceil_div (row_absolute_sum c i) (2 ^ c.fraction_bits) in
    let whole : moved_magnitude c i < 2 ^ 63 = r.moved i l in
    makes_plus e _ _ _ _ (2 * unsigned_abs c.clamp) ((c.steps + 1) * most)
    (makes_value e (variable Own i) (at made.multipliers i) (2 * unsigned_abs c.clamp) (b.old_own i (omega arith) l) (omega (arith, (r.before.rows.own i l).high, top_le c i)) (omega (arith, whole)))
    (weighted_made e k _ _ most ((c.steps + 1) * most) (omega (arith, r.inside, r.few)) b.weight_is h
    (mul-le (step_weight k) most (c.steps + 1) most (weight_le k c.steps r.inside) (le_refl most)) (omega (arith, whole))) whole

reached_made : (c : Numbers) (state : List ℤ) (k : ℕ) (made : FastIterate) (i : ℕ) (e : Environment) (y : ℤ) → FastStepFits c k made → i < length c.bounds → LiesUpTo (unsigned_abs (fast_top c i)) y →
    e Weight 0 ≡ pos (step_weight k) → e Reached i ≡ at made.reached i → e Own i ≡ y → Makes e (reached_expression i) (at made.reached i +ℤ pos (step_weight k) *ℤ y) (reached_magnitude c)
reached_made c state k made i e y r l up weight old new =
    let t = unsigned_abs (fast_top c i) in
    let fit = reached_le c k i r.inside in
    let room : all_weights k * t + step_weight k * t < 2 ^ 63 = omega (arith, fit, r.reached) in
    let own = makes_value e (variable Own i) y t new up.high (omega (arith, top_le c i, r.moved i l)) in
    makes_same e _ _ _ _ _
    (makes_plus e _ _ _ _ (all_weights k * t) (step_weight k * t)
    (makes_value e (variable Reached i) (at made.reached i) (all_weights k * t) old (r.before.rows.summed i l).high (omega (arith, room)))
    (weighted_made e k _ _ t (step_weight k * t) (omega (arith, r.inside, r.few)) weight own (le_refl (step_weight k * t)) (omega (arith, room))) room)
    refl fit

pub moves : (c : Numbers) (state : List ℤ) (k : ℕ) (made : FastIterate) (K : Environment → Type 0) (i : ℕ) (e : Environment) (a : Expression) → FastStepFits c k made → StaysByMoves K →
    i < length c.bounds → Makes e a (floor_of (row_sum c state (fast_step c state k made).plan i) (2 ^ c.fraction_bits)) (ceil_div (row_absolute_sum c i) (2 ^ c.fraction_bits)) →
    K e → FastMoves c state k made i e →
    Runs (kinds c (fast_sizes c)) e
    (Declare (variable Moved i) (Plus (Value (variable Own i)) (weighted a)) ∷ AtLeastZero (variable Moved i) ∷ AtMost (variable Moved i) (fast_top c i) ∷ Assign (variable Own i) (Value (variable Moved i))
    ∷ Assign (variable Reached i) (reached_expression i) ∷ [])
    (λ t. K t × FastMoves c state k made (suc i) t)
moves c state k made K i e a r stays l step h b =
    let kind = kinds c (fast_sizes c) in
    let plan = (fast_step c state k made).plan in
    let next = (fast_step c state k made).multipliers in
    let P = λ (t : Environment). K t × FastMoves c state k made (suc i) t in
    let old = at made.multipliers i in
    let top = fast_top c i in
    let z = fast_moved_to c state k made i in
    let new = moved_multiplier c state plan (step_weight k) old i in
    let sum = at made.reached i +ℤ pos (step_weight k) *ℤ new in
    let most = moved_magnitude c i in
    let whole : most < 2 ^ 63 = r.moved i l in
    let clamp : unsigned_abs top ≤ most = omega (arith, top_le c i) in
    let m = moved_made c state k made i e a r l b step in
    let up : LiesUpTo (unsigned_abs top) new = kept_up top z (top_low c i r.nonneg) in
    let same : new ≡ at next i = sym (moved_item c state plan (step_weight k) made.multipliers i l) in
    let added : sum ≡ at (fast_step c state k made).reached i =
    ap (λ (x : ℤ). at made.reached i +ℤ pos (step_weight k) *ℤ x) same ∙
    sym (added_item (step_weight k) made.reached next i (omega (arith, l, moved_long c state plan (step_weight k) made.multipliers))) in
    let v = variable Moved i in
    move_runs kind e (Plus (Value (variable Own i)) (weighted a)) v (variable Own i) z top most (Assign (variable Reached i) (reached_expression i) ∷ []) P m
    (omega (arith, clamp, whole))
    (kind_fits most z m.within whole)
    (kind_fits most (int_max z (pos 0)) (abs_raised_le z most m.within) whole)
    (kind_fits most new (omega (arith, up.high, clamp)) whole)
    (kind_fits (unsigned_abs top) new up.high (omega (arith, clamp, whole)))
    (fits64 new (omega (arith, up.high, clamp, whole)))
    (λ x1 x2 x3 y is.
    let e1 = with_value e v x1 in
    let e2 = with_value e1 v x2 in
    let e3 = with_value e2 v x3 in
    let d = with_value e3 (variable Own i) y in
    let n = reached_made c state k made i d new r l up b.weight_is (b.old_reached i (omega arith) l) (held_new e3 (variable Own i) y ∙ is) in
    runs_one kind d _ sum P n.defined n.is (kind_fits (reached_magnitude c) sum n.within r.reached) (
      stays.reached d i sum (stays.own e3 i y (stays.moved e2 i x3 (stays.moved e1 i x2 (stays.moved e i x1 h)))),
      record {
        sums_new = b.sums_new;
        weight_is = b.weight_is;
        scale = b.scale;
        new_own = put (e Own) (at next) i y (is ∙ same) b.new_own;
        old_own = kept (e Own) (at made.multipliers) i (length c.bounds) y b.old_own;
        new_reached = put (e Reached) (at (fast_step c state k made).reached) i sum added b.new_reached;
        old_reached = kept (e Reached) (at made.reached) i (length c.bounds) sum b.old_reached;
      },
    ))

-- ---- the next step's weight
pub next_runs : (c : Numbers) (B : OfBases) (state : List ℤ) (k : ℕ) (made : FastIterate) (e : Environment) → FastStepFits c k made → held_bases B e → FastMoves c state k made (length c.bounds) e →
    Runs (kinds c (fast_sizes c)) e (next_weight ∷ []) (FastHolds c B (suc k) (fast_step c state k made))
next_runs c B state k made e r bases b =
    let short : k < 2 ^ 16 = omega (arith, r.inside, r.few) in
    let m = makes_plus e weight_value (Constant (pos 1)) (pos (step_weight k)) (pos 1) (step_weight k) 1 (weight_made e k short b.weight_is) (makes_constant e (pos 1) 1 (omega arith) (omega arith)) (omega (arith, short)) in
    let same : pos (step_weight k) +ℤ pos 1 ≡ pos (step_weight (suc k)) = omega (arith, ints) in
    runs_one (kinds c (fast_sizes c)) e next_weight (pos (step_weight (suc k))) (FastHolds c B (suc k) (fast_step c state k made)) m.defined (m.is ∙ same)
    (fits_width 32 (pos (step_weight (suc k))) (omega (arith, short)))
    (record { bases = bases; own = b.new_own; reached = b.new_reached; sums = b.sums_new; weight = refl; scale = λ t. next_scale k (e Shift 0) (e Power 0) (b.scale t) })

-- ---- the means
pub means_run : (c : Numbers) (B : OfBases) (k : ℕ) (made : FastIterate) (e : Environment) → FastStepFits c k made → FastHolds c B k made e →
    Runs (kinds c (fast_sizes c)) e (means_for Accelerated c) (Means c B k made (Reciprocated c (mean_divisor k)) (length c.bounds))
means_run c B k made e r h =
    let kind = kinds c (fast_sizes c) in
    let S = ScaledTo c (mean_divisor k) 8 in
    let R = Reciprocated c (mean_divisor k) in
    let scaled = runs_append kind e (divisor_statement ∷ []) (scale_statements c) (Means c B k made S 0) (Means c B k made R 0) (divisor_runs c B k made e r h) (λ t s. scale_runs c B k made t r s) in
    runs_append kind e _ (groups (mean_statements c) (length c.bounds)) (Means c B k made R 0) (Means c B k made R (length c.bounds)) scaled
    (λ t s. runs_groups kind (mean_statements c) (Means c B k made R) (length c.bounds) t s (λ i u l v. mean_runs c B k made i u r l v))

-- ---- the whole step of the program in one part
pub record FastStepReady (c : Numbers) (state : List ℤ) (k : ℕ) (made : FastIterate) : Type 0 where
  pub ready : Ready c state
  pub fits : FastStepFits c k made

plan_ready : (c : Numbers) (state : List ℤ) (k : ℕ) (made : FastIterate) → FastStepReady c state k made → PlanReady c state (used_of c k made)
plan_ready c state k made r = record { ready = r.ready; ranges = used_ranges c k made r.fits; room = λ j l. entry_room c k made j r.fits l }

has_plan : (c : Numbers) (state : List ℤ) (k : ℕ) (made : FastIterate) → FastStepReady c state k made → HasPlan c (fast_step c state k made).plan (Rows c state (fast_step c state k made).plan 0)
has_plan c state k made r =
    let p = plan_ready c state k made r in record {
      within = plan_within c state (raised c (used_of c k made)) r.ready.within (raised_within c (used_of c k made) r.ready.nonneg p.ranges.tops);
      entries = λ e h. h.planned.entries;
      stays = (rows_stay c state (fast_step c state k made).plan 0).sum;
    }

one_moves : (c : Numbers) (state : List ℤ) (k : ℕ) (made : FastIterate) (i : ℕ) (e : Environment) → FastStepReady c state k made → i < length c.bounds →
    Summed c state (fast_step c state k made).plan (FastMoves c state k made i) i e →
    Runs (kinds c (fast_sizes c)) e (fast_move_statements c i) (λ t. Rows c state (fast_step c state k made).plan (suc i) t × FastMoves c state k made (suc i) t)
one_moves c state k made i e r l s =
    let plan = (fast_step c state k made).plan in
    let a = lowered_value (variable RowSum i) (c.fraction_bits - row_bits c i) in
    let step = residual_made c state plan e i r.ready l s.0.planned.within (row_sum_small c state plan i e r.ready l s.0).within s.2 in
    moves c state k made (Rows c state plan (suc i)) i e a r.fits (rows_stay c state plan (suc i)) l step s.0 s.1

pub fast_body_runs : (c : Numbers) (state : List ℤ) (k : ℕ) (made : FastIterate) (e : Environment) → FastStepReady c state k made → FastHolds c (whole_bases c state) k made e →
    Runs (kinds c (fast_sizes c)) e (fast_body c) (FastHolds c (whole_bases c state) (suc k) (fast_step c state k made))
fast_body_runs c state k made e r h =
    let p = length c.offsets in
    let m = length c.bounds in
    let sizes = fast_sizes c in
    let kind = kinds c sizes in
    let B = whole_bases c state in
    let F = Beside c k made in
    let used = used_of c k made in
    let plan = (fast_step c state k made).plan in
    let M = FastMoves c state k made in
    let ready = plan_ready c state k made r in
    let stays = beside_stays c k made in
    let A = Means c B k made (Reciprocated c (mean_divisor k)) m in
    let two = runs_append kind e (means_for Accelerated c) (groups (difference_statements c) m) A (Plans c state used F 0) (means_run c B k made e r.fits h)
    (λ t s. plan_begins c sizes state used F ready stays t s.bases s.means (means_beside c B k made m t s)) in
    let three = runs_append kind e _ (groups (entry_statements c) p) (Plans c state used F 0) (Plans c state used F p) two (λ t s. entries_run c sizes state used F ready stays t s) in
    let Z = λ (t : Environment). Rows c state plan 0 t × M 0 t in
    let four = runs_append kind e _ (groups weighted_sum_statements p) (Plans c state used F p) Z three
    (λ t s. sums_run c state k made (Rows c state plan 0) t r.fits (has_plan c state k made r)
    (record { entry_bases = s.bases.entries; planned = is_planned c state used F t ready s; gradients = λ i l. absurd (omega (arith, l)) }) s.beside) in
    let R = λ (t : Environment). Rows c state plan m t × M m t in
    let five = runs_append kind e _ (groups (fast_row_statements c) m) Z R four
    (λ t s. rows_run c sizes state plan M (fast_move_statements c) r.ready (moves_stay c state k made) (λ i u l v. one_moves c state k made i u r l v) t s) in
    runs_append kind e _ (next_weight ∷ []) R (FastHolds c B (suc k) (fast_step c state k made)) five
    (λ t s. next_runs c B state k made t r.fits (record { entries = s.0.entry_bases; rows = s.0.planned.bases }) s.1)
