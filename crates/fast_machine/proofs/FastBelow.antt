-- No value of a run of the accelerated machine leaves the width that holds the absolute sums.
use Rattle.std.proofs.Common.{ℕ, suc, ◌+◌, ◌-◌, ◌*◌, ◌^◌, ◌≤◌, ◌<◌, ℤ, pos, ◌+ℤ◌, ◌*ℤ◌, ◌≤ℤ◌, List, [], ◌∷◌, ◌++◌, length, get_or, unsigned_abs, arith}
use Rattle.std.specs.Prelude.{All}
use Rattle.std.proofs.lemmas.Int.{unsigned_abs-mul}
use Rattle.std.proofs.lemmas.Nat.{mul-le}
use Rattle.std.proofs.lemmas.List.{get_or-replicate}
use Rattle.std.proofs.lemmas.List.Elements.{All-nil, All-cons, All-append, All-weaker, All-from_get_or}
use Rattle.integer_algebra.specs.Division.{floor_of}
use Rattle.integer_algebra.specs.Sums.{at}
use Rattle.mat_int.specs.Row.{list_dot, abs_dot}
use Rattle.mat_int.specs.Matrix.{row_of}
use Rattle.mat_int.proofs.Dots.{abs-add_le}
use Rattle.qp_model.specs.machine.Controller.{Numbers}
use Rattle.qp_model.specs.machine.Machine.{loaded, entry_sum, plan_entry, plan_of, row_sum}
use Rattle.qp_model.specs.machine.AbsoluteSums.{state_magnitudes, clamp_magnitudes, entry_absolute_sum, plan_magnitudes}
use Rattle.qp_model.specs.machine.ValuesMet.{products, partial_sums, entry_values, FitsWidth}
use Rattle.qp_model.specs.machine.Within.{AreWithin}
use Rattle.qp_model.proofs.AbsoluteLaws.{le_times_pow, abs-neg, abs-shifted, abs-floor_le, abs-own_le, abs-scaled_le, abs-row_le}
use Rattle.qp_model.proofs.MagnitudeLaws.{entry_parts_le, entry_sum_le, top_le_clamp, get_or-le-greatest}
use Rattle.overflow_check.proofs.SumLaws.{own_le, dual_le, planned_le, row_parts_le, row_le}
use Rattle.overflow_check.proofs.ValuesMet.{fits_width}
use Rattle.overflow_check.specs.FastMachine.{FastIterate, step_weight, all_weights, fast_top, mean_at, means_of, moved_multiplier, fast_step, fast_after}
use Rattle.overflow_check.specs.FastController.{reached_magnitude}
use Rattle.fast_machine.specs.FastReady.{LiesUpTo, IsFastReady}
use Rattle.fast_machine.specs.FastValues.{mean_values, moved_values, FastStepFits, FastValuesLaw}
use Rattle.fast_machine.proofs.WeightSums.{more_weights}
use Rattle.fast_machine.proofs.FastRuns.{twice_abs, top_low, top_le, kept_up, added_up, mean_up, mean_le, means_within, made_plan_within, step_kept, grid_within, ready_law}
use Rattle.fast_machine.proofs.FastSums.{FastSumsFit, fast_sums_fit, weight_in, weights_with, one_weight, tops_within, times_residual_le, moving_le}

-- ---- lists of numbers below a bound
-- at most top in absolute value
abbrev Below : ℕ → ℤ → Type 0
Below top z = unsigned_abs z ≤ top

record EachBelow (top : ℕ) (zs : List ℤ) : Type 0 where
  each : All (Below top) zs

nothing : (top : ℕ) → EachBelow top []
nothing top = record { each = All-nil (Below top) }

one_more : (top : ℕ) (z : ℤ) {zs : List ℤ} → unsigned_abs z ≤ top → EachBelow top zs → EachBelow top (z ∷ zs)
one_more top z {zs} h l = record { each = All-cons (Below top) z zs h l.each }

both : {top : ℕ} {xs ys : List ℤ} → EachBelow top xs → EachBelow top ys → EachBelow top (xs ++ ys)
both {top} {xs} {ys} h l = record { each = All-append (Below top) xs ys h.each l.each }

-- the products of two lists, and their partial sums from a start on
terms_below : (top : ℕ) (xs ys : List ℤ) → abs_dot xs ys ≤ top → EachBelow top (products xs ys)
terms_below top [] ys h = nothing top
terms_below top (x ∷ xs) [] h = nothing top
terms_below top (x ∷ xs) (y ∷ ys) h = one_more top (x *ℤ y) (omega (arith, unsigned_abs-mul x y, h)) (terms_below top xs ys (omega (arith, h)))

going_below : (top : ℕ) (start : ℤ) (xs ys : List ℤ) → unsigned_abs start + abs_dot xs ys ≤ top → EachBelow top (partial_sums start (products xs ys))
going_below top start [] ys h = nothing top
going_below top start (x ∷ xs) [] h = nothing top
going_below top start (x ∷ xs) (y ∷ ys) h =
    let next : unsigned_abs (start +ℤ x *ℤ y) ≤ unsigned_abs start + unsigned_abs x * unsigned_abs y = omega (arith, abs-add_le start (x *ℤ y), unsigned_abs-mul x y) in
    one_more top (start +ℤ x *ℤ y) (omega (arith, next, h)) (going_below top (start +ℤ x *ℤ y) xs ys (omega (arith, next, h)))

-- two lists of terms, the second on top of the first or apart
pair_below : (top : ℕ) (xs ys us vs : List ℤ) → unsigned_abs (list_dot xs ys) + abs_dot us vs ≤ top → abs_dot xs ys ≤ top →
    EachBelow top (products xs ys ++ partial_sums (pos 0) (products xs ys) ++ products us vs ++ partial_sums (pos 0) (products us vs) ++ partial_sums (list_dot xs ys) (products us vs))
pair_below top xs ys us vs h l =
    both (both (both (both (terms_below top xs ys l) (going_below top (pos 0) xs ys (omega (arith, l)))) (terms_below top us vs (omega (arith, h))))
    (going_below top (pos 0) us vs (omega (arith, h)))) (going_below top (list_dot xs ys) us vs h)

fitting : (w : ℕ) (zs : List ℤ) → EachBelow (2 ^ (w - 1) - 1) zs → All (FitsWidth w) zs
fitting w zs h = All-weaker (Below (2 ^ (w - 1) - 1)) (FitsWidth w) (fits_width w) zs h.each

-- ---- means
means_below : (c : Numbers) (top k : ℕ) (made : FastIterate) (i : ℕ) → FastSumsFit c top → k < c.steps → pos 0 ≤ℤ c.clamp → IsFastReady c k made → i < length c.bounds →
    EachBelow top (mean_values c k made i)
means_below c top k made i fit lt h r inside =
    let v = at made.multipliers i in
    let s = at made.reached i in
    let t = unsigned_abs (fast_top c i) in
    let times = pos (step_weight k) *ℤ v in
    let up = mean_up c k made.multipliers made.reached i r.rows inside in
    let one : 1 * t ≤ reached_magnitude c = tops_within c 1 i (one_weight k c.steps lt) in
    let own : unsigned_abs v ≤ top = omega (arith, (r.rows.own i inside).high, one, fit.reached) in
    let whole : unsigned_abs (s +ℤ times) ≤ top = omega (arith, up.high, tops_within c (all_weights (suc k)) i (weights_with k c.steps lt), fit.reached) in
    let before : unsigned_abs s ≤ top = omega (arith, (r.rows.summed i inside).high, tops_within c (all_weights k) i (omega (arith, weights_with k c.steps lt, more_weights k)), fit.reached) in
    let product : unsigned_abs times ≤ top =
    omega (arith, unsigned_abs-mul (pos (step_weight k)) v, mul-le (step_weight k) (unsigned_abs v) (step_weight k) t (omega arith) (r.rows.own i inside).high, tops_within c (step_weight k) i (weight_in k c.steps lt), fit.reached) in
    let means = means_within c k made.multipliers made.reached h r.rows in
    let clamp : unsigned_abs c.clamp ≤ top = omega (arith, fit.moved i inside) in
    let raised : unsigned_abs (at (means_of c k made.multipliers made.reached) i) ≤ top =
    omega (arith, rw (get_or-replicate (length c.bounds) i (unsigned_abs c.clamp) 0 inside) at (means.each i), clamp) in
    one_more top v own (one_more top s before (one_more top times product (one_more top (s +ℤ times) whole
    (one_more top (mean_at k made.multipliers made.reached i) (omega (arith, mean_le c k made.multipliers made.reached i h r.rows inside, top_le_clamp c i, clamp)) (one_more top (at (means_of c k made.multipliers made.reached) i) raised (nothing top))))))

-- ---- plan entries
entries_below : (c : Numbers) (top : ℕ) (state means : List ℤ) (j : ℕ) → entry_absolute_sum c j ≤ top → AreWithin state (state_magnitudes c) → AreWithin means (clamp_magnitudes c) →
    EachBelow top (entry_values c state means j)
entries_below c top state means j le w v =
    let row = row_of c.state_gains j in
    let dual = row_of c.dual_gains j in
    let t = at c.offsets j in
    let own = list_dot row state in
    let offset = t *ℤ pos (2 ^ c.fraction_bits) in
    let scaled = (own +ℤ offset) *ℤ pos (2 ^ c.step_exponent) in
    let z = entry_sum c state means j in
    let d = 2 ^ (c.fraction_bits + c.step_exponent) in
    let parts = entry_parts_le c state means j w v in
    let power = le_times_pow (unsigned_abs own + unsigned_abs t * 2 ^ c.fraction_bits) c.step_exponent in
    let terms : abs_dot row state ≤ top = omega (arith, own_le c state j w, le) in
    let duals : abs_dot dual means ≤ top = omega (arith, dual_le c means j v, le) in
    let scaling = abs-scaled_le own t c.fraction_bits c.step_exponent in
    let whole : unsigned_abs z ≤ top = omega (arith, entry_sum_le c state means j w v, le) in
    let floor : unsigned_abs (floor_of z d) ≤ top = omega (arith, abs-floor_le z d, whole) in
    let middle = one_more top offset (omega (arith, abs-shifted t c.fraction_bits, power, parts, le)) (one_more top (own +ℤ offset) (omega (arith, abs-own_le own t c.fraction_bits, power, parts, le))
    (one_more top scaled (omega (arith, scaling, parts, le)) (nothing top))) in
    let last = one_more top z whole (one_more top (floor_of z d) floor (one_more top (plan_entry c state means j) (omega (arith, abs-neg (floor_of z d), floor)) (nothing top))) in
    both (both (both (both (both (both (terms_below top row state terms) (going_below top (pos 0) row state (omega (arith, terms)))) middle)
    (terms_below top dual means duals)) (going_below top (pos 0) dual means (omega (arith, duals)))) (going_below top scaled dual means (omega (arith, scaling, parts, le)))) last

-- ---- multipliers
rows_below : (c : Numbers) (top : ℕ) (state plan : List ℤ) (k : ℕ) (made : FastIterate) (i : ℕ) → FastSumsFit c top → k < c.steps → pos 0 ≤ℤ c.clamp →
    AreWithin state (state_magnitudes c) → AreWithin plan (plan_magnitudes c) → IsFastReady c k made → i < length c.bounds → EachBelow top (moved_values c state plan k made i)
rows_below c top state plan k made i fit lt h w v r inside =
    let a = step_weight k in
    let old = at made.multipliers i in
    let bound = at c.bounds i *ℤ pos (2 ^ c.fraction_bits) in
    let z = row_sum c state plan i in
    let residual = floor_of z (2 ^ c.fraction_bits) in
    let t = fast_top c i in
    let new = moved_multiplier c state plan a old i in
    let le = fit.rows i inside in
    let parts = row_parts_le c state plan i w v in
    let whole : unsigned_abs z ≤ top = omega (arith, abs-row_le (list_dot (row_of c.plan_rows i) plan) (list_dot (row_of c.state_rows i) state) (at c.bounds i) c.fraction_bits, row_le c state plan i w v, le) in
    let moved = fit.moved i inside in
    let clamp : 2 * unsigned_abs c.clamp ≤ top = omega (arith, moved) in
    let kept : LiesUpTo (unsigned_abs t) new = kept_up t (old +ℤ pos a *ℤ residual) (top_low c i h) in
    let after = added_up (at made.reached i) new (all_weights k) a (unsigned_abs t) (all_weights (suc k)) (r.rows.summed i inside) kept (more_weights k) in
    let product : unsigned_abs (pos a *ℤ new) ≤ top =
    omega (arith, unsigned_abs-mul (pos a) new, mul-le a (unsigned_abs new) a (unsigned_abs t) (omega arith) kept.high, tops_within c a i (weight_in k c.steps lt), fit.reached) in
    let last = one_more top bound (omega (arith, abs-shifted (at c.bounds i) c.fraction_bits, parts, le)) (one_more top z whole (one_more top residual (omega (arith, abs-floor_le z (2 ^ c.fraction_bits), whole))
    (one_more top (pos a *ℤ residual) (omega (arith, times_residual_le c state plan k i lt w v, moved)) (one_more top (old +ℤ pos a *ℤ residual) (omega (arith, moving_le c state plan old k i lt (r.rows.own i inside) w v, moved))
    (one_more top c.clamp (omega (arith, clamp)) (one_more top (pos 2 *ℤ c.clamp) (omega (arith, twice_abs c.clamp, clamp)) (one_more top t (omega (arith, top_le c i, clamp))
    (one_more top new (omega (arith, kept.high, top_le c i, clamp)) (one_more top (pos a *ℤ new) product
    (one_more top (at made.reached i +ℤ pos a *ℤ new) (omega (arith, after.high, tops_within c (all_weights (suc k)) i (weights_with k c.steps lt), fit.reached)) (nothing top))))))))))) in
    both (pair_below top (row_of c.plan_rows i) plan (row_of c.state_rows i) state (omega (arith, parts, le)) (omega (arith, planned_le c plan i v, le))) last

-- ---- sums
sums_below : (c : Numbers) (top : ℕ) (state : List ℤ) (k : ℕ) (made : FastIterate) (j : ℕ) → FastSumsFit c top → k < c.steps → pos 0 ≤ℤ c.clamp →
    AreWithin state (state_magnitudes c) → IsFastReady c k made → j < length c.offsets →
    EachBelow top ((pos (step_weight k) *ℤ at (fast_step c state k made).plan j) ∷ at (fast_step c state k made).sums j ∷ [])
sums_below c top state k made j fit lt h w r inside =
    let a = step_weight k in
    let u = get_or (plan_magnitudes c) j 0 in
    let entry = at (fast_step c state k made).plan j in
    let within = made_plan_within c state k made h w r in
    let all = fit.sums j inside in
    let once : unsigned_abs (pos a *ℤ entry) ≤ top =
    omega (arith, unsigned_abs-mul (pos a) entry, mul-le a (unsigned_abs entry) a u (omega arith) (within.each j), mul-le a u (all_weights c.steps) u (weight_in k c.steps lt) (omega arith), all) in
    let sum : unsigned_abs (at (fast_step c state k made).sums j) ≤ top =
    omega (arith, (step_kept c state k made h w r).entries.each j inside, mul-le (all_weights (suc k)) u (all_weights c.steps) u (weights_with k c.steps lt) (omega arith), all) in
    one_more top (pos a *ℤ entry) once (one_more top (at (fast_step c state k made).sums j) sum (nothing top))

-- ---- a step, and a run
step_fits : (c : Numbers) (w : ℕ) (state : List ℤ) (k : ℕ) (made : FastIterate) → FastSumsFit c (2 ^ (w - 1) - 1) → k < c.steps → pos 0 ≤ℤ c.clamp →
    AreWithin state (state_magnitudes c) → IsFastReady c k made → FastStepFits w c state k made
step_fits c w state k made fit lt h within r =
    let top = 2 ^ (w - 1) - 1 in
    let means = means_of c k made.multipliers made.reached in
    record {
      means = λ i l. fitting w _ (means_below c top k made i fit lt h r l);
      entries = λ j l. fitting w _ (entries_below c top state means j (fit.entries j l) within (means_within c k made.multipliers made.reached h r.rows));
      rows = λ i l. fitting w _ (rows_below c top state (plan_of c state means) k made i fit lt h within (made_plan_within c state k made h within r) r l);
      sums = λ j l. fitting w _ (sums_below c top state k made j fit lt h within r l);
    }

state_fits : (c : Numbers) (w : ℕ) (state : List ℤ) → FastSumsFit c (2 ^ (w - 1) - 1) → AreWithin state (state_magnitudes c) → All (FitsWidth w) state
state_fits c w state fit within =
    fitting w state (record { each = All-from_get_or (Below (2 ^ (w - 1) - 1)) state (pos 0) (λ i l. omega (arith, within.each i, get_or-le-greatest (state_magnitudes c) i, fit.states)) })

pub values_law : FastValuesLaw
values_law c xi sound grid =
    let fit = fast_sums_fit c (2 ^ (c.width - 1) - 1) sound.fit in
    let within = grid_within c xi sound grid in
    record {
      state = state_fits c c.width (loaded c xi) fit within;
      steps = λ k lt. step_fits c c.width (loaded c xi) k (fast_after c (loaded c xi) k) fit lt sound.form.sized.rest.clamp_low within (ready_law c xi sound grid k);
    }
