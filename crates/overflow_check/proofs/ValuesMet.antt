-- No value of a run leaves the width that holds the absolute sums.
use Rattle.std.proofs.Common.{ℕ, ◌+◌, ◌-◌, ◌*◌, ◌^◌, ◌≤◌, ◌<◌, ℤ, pos, ◌+ℤ◌, ◌*ℤ◌, ◌≤ℤ◌, List, [], ◌∷◌, ◌++◌, length, get_or, unsigned_abs, arith, subst}
use Rattle.std.specs.Prelude.{All}
use Rattle.std.proofs.lemmas.Int.{ints, unsigned_abs-mul}
use Rattle.std.proofs.lemmas.Nat.{pow_pos, mul-le}
use Rattle.std.proofs.lemmas.List.{get_or-replicate, length-replicate}
use Rattle.std.proofs.lemmas.List.Elements.{All-nil, All-cons, All-append, All-weaker, All-from_get_or}
use Rattle.integer_algebra.specs.Division.{floor_of, ceil_div}
use Rattle.integer_algebra.specs.Sums.{at}
use Rattle.mat_int.specs.Row.{list_dot, abs_dot}
use Rattle.mat_int.specs.Matrix.{row_of}
use Rattle.mat_int.proofs.Dots.{abs-add_le}
use Rattle.qp_model.specs.machine.Controller.{Numbers}
use Rattle.qp_model.specs.machine.Machine.{Iterate, loaded, raised, top_of, entry_sum, plan_entry, plan_of, row_sum, next_multiplier, step_of, after}
use Rattle.qp_model.specs.machine.AbsoluteSums.{state_magnitudes, clamp_magnitudes, entry_absolute_sum, plan_magnitudes, row_absolute_sum, next_magnitude}
use Rattle.qp_model.specs.machine.ValuesMet.{products, partial_sums, entry_values, row_values, FitsWidth, StepFits}
use Rattle.qp_model.specs.machine.Within.{AreWithin}
use Rattle.overflow_check.specs.Laws.{ValuesLaw}
use Rattle.qp_model.proofs.AbsoluteLaws.{le_times_pow, abs-neg, abs-shifted, abs-floor_le, abs-floor_le_ceil, abs-own_le, abs-scaled_le, abs-row_le, abs-clamped_le, ceil_div_mono}
use Rattle.overflow_check.proofs.SumLaws.{SumsFit, sums_fit, own_le, dual_le, planned_le, row_parts_le, row_le, next_le}
use Rattle.qp_model.proofs.MagnitudeLaws.{entry_parts_le, entry_sum_le, plan_within, state_within, top_nonneg, top_le_clamp, after_tops, after_multipliers, get_or-le-greatest}
use Rattle.overflow_check.proofs.Runs.{after_sums_length, after_sums_le, after_suc, clamped_at}

-- ---- lists of numbers below a bound
-- each is at most top in absolute value
record AreBelow (top : ℕ) (zs : List ℤ) : Type 0 where
  each : All (λ z. unsigned_abs z ≤ top) zs

none_below : (top : ℕ) → AreBelow top []
none_below top = record { each = All-nil (λ z. unsigned_abs z ≤ top) }

cons_below : (top : ℕ) (z : ℤ) (zs : List ℤ) → unsigned_abs z ≤ top → AreBelow top zs → AreBelow top (z ∷ zs)
cons_below top z zs h l = record { each = All-cons (λ z. unsigned_abs z ≤ top) z zs h l.each }

append_below : (top : ℕ) (xs ys : List ℤ) → AreBelow top xs → AreBelow top ys → AreBelow top (xs ++ ys)
append_below top xs ys h l = record { each = All-append (λ z. unsigned_abs z ≤ top) xs ys h.each l.each }

products_below : (top : ℕ) (xs ys : List ℤ) → abs_dot xs ys ≤ top → AreBelow top (products xs ys)
products_below top [] ys h = none_below top
products_below top (x ∷ xs) [] h = none_below top
products_below top (x ∷ xs) (y ∷ ys) h =
    cons_below top (x *ℤ y) (products xs ys) (omega (arith, unsigned_abs-mul x y, h)) (products_below top xs ys (omega (arith, h)))

partial_sums_below : (top : ℕ) (start : ℤ) (xs ys : List ℤ) → unsigned_abs start + abs_dot xs ys ≤ top → AreBelow top (partial_sums start (products xs ys))
partial_sums_below top start [] ys h = none_below top
partial_sums_below top start (x ∷ xs) [] h = none_below top
partial_sums_below top start (x ∷ xs) (y ∷ ys) h =
    let sum : unsigned_abs (start +ℤ x *ℤ y) ≤ unsigned_abs start + unsigned_abs x * unsigned_abs y = omega (arith, abs-add_le start (x *ℤ y), unsigned_abs-mul x y) in
    cons_below top (start +ℤ x *ℤ y) (partial_sums (start +ℤ x *ℤ y) (products xs ys)) (omega (arith, sum, h))
    (partial_sums_below top (start +ℤ x *ℤ y) xs ys (omega (arith, sum, h)))

pub fits_width : (w : ℕ) (z : ℤ) → unsigned_abs z ≤ 2 ^ (w - 1) - 1 → FitsWidth w z
fits_width w z h = record { low = omega (arith, ints, pow_pos (w - 1), h); high = omega (arith, ints, pow_pos (w - 1), h) }

all_fit : (w : ℕ) (zs : List ℤ) → AreBelow (2 ^ (w - 1) - 1) zs → All (FitsWidth w) zs
all_fit w zs h = All-weaker (λ z. unsigned_abs z ≤ 2 ^ (w - 1) - 1) (FitsWidth w) (fits_width w) zs h.each

-- ---- one step
entry_below : (c : Numbers) (top : ℕ) (state multipliers : List ℤ) (j : ℕ) → entry_absolute_sum c j ≤ top → AreWithin state (state_magnitudes c) → AreWithin multipliers (clamp_magnitudes c) →
    AreBelow top (entry_values c state multipliers j)
entry_below c top state multipliers j le w v =
    let row = row_of c.state_gains j in
    let dual = row_of c.dual_gains j in
    let offset = at c.offsets j *ℤ pos (2 ^ c.fraction_bits) in
    let sum = list_dot row state +ℤ offset in
    let scaled = sum *ℤ pos (2 ^ c.step_exponent) in
    let z = entry_sum c state multipliers j in
    let d = 2 ^ (c.fraction_bits + c.step_exponent) in
    let parts = entry_parts_le c state multipliers j w v in
    let own : abs_dot row state ≤ top = omega (arith, own_le c state j w, le) in
    let duals : abs_dot dual multipliers ≤ top = omega (arith, dual_le c multipliers j v, le) in
    let power = le_times_pow (unsigned_abs (list_dot row state) + unsigned_abs (at c.offsets j) * 2 ^ c.fraction_bits) c.step_exponent in
    let middle : AreBelow top (offset ∷ sum ∷ scaled ∷ []) =
    cons_below top offset (sum ∷ scaled ∷ []) (omega (arith, abs-shifted (at c.offsets j) c.fraction_bits, power, parts, le))
    (cons_below top sum (scaled ∷ []) (omega (arith, abs-own_le (list_dot row state) (at c.offsets j) c.fraction_bits, power, parts, le))
    (cons_below top scaled [] (omega (arith, abs-scaled_le (list_dot row state) (at c.offsets j) c.fraction_bits c.step_exponent, parts, le)) (none_below top))) in
    let whole : unsigned_abs z ≤ top = omega (arith, entry_sum_le c state multipliers j w v, le) in
    let floor : unsigned_abs (floor_of z d) ≤ top = omega (arith, abs-floor_le z d, whole) in
    let last : AreBelow top (z ∷ floor_of z d ∷ plan_entry c state multipliers j ∷ []) =
    cons_below top z _ whole (cons_below top (floor_of z d) _ floor (cons_below top (plan_entry c state multipliers j) [] (omega (arith, abs-neg (floor_of z d), floor)) (none_below top))) in
    append_below top _ _ (append_below top _ _ (append_below top _ _ (append_below top _ _ (append_below top _ _ (append_below top _ _
    (products_below top row state own)
    (partial_sums_below top (pos 0) row state (omega (arith, own))))
    middle)
    (products_below top dual multipliers duals))
    (partial_sums_below top (pos 0) dual multipliers (omega (arith, duals))))
    (partial_sums_below top scaled dual multipliers (omega (arith, abs-scaled_le (list_dot row state) (at c.offsets j) c.fraction_bits c.step_exponent, parts, le))))
    last

row_below : (c : Numbers) (top : ℕ) (state plan : List ℤ) (old : ℤ) (i : ℕ) → row_absolute_sum c i ≤ top → next_magnitude c i ≤ top → pos 0 ≤ℤ c.clamp → unsigned_abs old ≤ unsigned_abs c.clamp →
    AreWithin state (state_magnitudes c) → AreWithin plan (plan_magnitudes c) → AreBelow top (row_values c state plan old i)
row_below c top state plan old i le next nonneg clamped w v =
    let planned = row_of c.plan_rows i in
    let own = row_of c.state_rows i in
    let bound = at c.bounds i *ℤ pos (2 ^ c.fraction_bits) in
    let z = row_sum c state plan i in
    let d = 2 ^ c.fraction_bits in
    let moved = floor_of z d in
    let parts = row_parts_le c state plan i w v in
    let plans : abs_dot planned plan ≤ top = omega (arith, planned_le c plan i v, le) in
    let sums : unsigned_abs (list_dot planned plan) + abs_dot own state ≤ top = omega (arith, parts, le) in
    let row = row_le c state plan i w v in
    let whole : unsigned_abs z ≤ unsigned_abs (list_dot planned plan) + unsigned_abs (list_dot own state) + unsigned_abs (at c.bounds i) * 2 ^ c.fraction_bits =
    abs-row_le (list_dot planned plan) (list_dot own state) (at c.bounds i) c.fraction_bits in
    let ceiling : unsigned_abs moved ≤ ceil_div (unsigned_abs (list_dot planned plan) + unsigned_abs (list_dot own state) + unsigned_abs (at c.bounds i) * 2 ^ c.fraction_bits) d =
    omega (arith, abs-floor_le_ceil z d (pow_pos c.fraction_bits), ceil_div_mono (unsigned_abs z) _ d (pow_pos c.fraction_bits) whole) in
    let new : unsigned_abs (old +ℤ moved) ≤ top = omega (arith, abs-add_le old moved, ceiling, next_le c state plan old i clamped w v, next) in
    let clamp : unsigned_abs c.clamp ≤ top = omega (arith, next) in
    let last : AreBelow top (bound ∷ z ∷ moved ∷ (old +ℤ moved) ∷ c.clamp ∷ top_of c i ∷ next_multiplier c state plan old i ∷ []) =
    cons_below top bound _ (omega (arith, abs-shifted (at c.bounds i) c.fraction_bits, parts, le))
    (cons_below top z _ (omega (arith, whole, row, le))
    (cons_below top moved _ (omega (arith, abs-floor_le z d, whole, row, le))
    (cons_below top (old +ℤ moved) _ new
    (cons_below top c.clamp _ clamp
    (cons_below top (top_of c i) _ (omega (arith, top_le_clamp c i, clamp))
    (cons_below top (next_multiplier c state plan old i) [] (omega (arith, abs-clamped_le (top_of c i) (old +ℤ moved) (top_nonneg c i nonneg), top_le_clamp c i, clamp)) (none_below top))))))) in
    append_below top _ _ (append_below top _ _ (append_below top _ _ (append_below top _ _ (append_below top _ _
    (products_below top planned plan plans)
    (partial_sums_below top (pos 0) planned plan (omega (arith, plans))))
    (products_below top own state (omega (arith, sums))))
    (partial_sums_below top (pos 0) own state (omega (arith, sums))))
    (partial_sums_below top (list_dot planned plan) own state sums))
    last

-- the raised multipliers are below the clamp, which each row's sum holds
raised_below : (c : Numbers) (top : ℕ) (multipliers : List ℤ) → SumsFit c top → AreWithin (raised c multipliers) (clamp_magnitudes c) → AreBelow top (raised c multipliers)
raised_below c top multipliers fit v =
    record {
      each = All-from_get_or (λ z. unsigned_abs z ≤ top) (raised c multipliers) (pos 0) (λ i l.
          let inside : i < length c.bounds = omega (arith, l, v.long, length-replicate (length c.bounds) (unsigned_abs c.clamp)) in
          omega (arith, rw (get_or-replicate (length c.bounds) i (unsigned_abs c.clamp) 0 inside) at (v.each i), fit.next i inside));
    }

-- ---- runs
sums_below : (c : Numbers) (top : ℕ) (state : List ℤ) (k : ℕ) → SumsFit c top → k < c.steps → pos 0 ≤ℤ c.clamp → AreWithin state (state_magnitudes c) → AreBelow top (after c state (k + 1)).sums
sums_below c top state k fit lt h w =
    let under : (j : ℕ) → j < length (after c state (k + 1)).sums → unsigned_abs (at (after c state (k + 1)).sums j) ≤ top = λ j l.
    let inside : j < length c.offsets = rw after_sums_length at l in
    omega (arith, after_sums_le c state (k + 1) j h w inside, mul-le (k + 1) (get_or (plan_magnitudes c) j 0) c.steps (get_or (plan_magnitudes c) j 0) (omega (arith, lt)) (omega arith), fit.sums j inside) in
    record { each = All-from_get_or (λ z. unsigned_abs z ≤ top) (after c state (k + 1)).sums (pos 0) under }

state_below : (c : Numbers) (top : ℕ) (state : List ℤ) → SumsFit c top → AreWithin state (state_magnitudes c) → AreBelow top state
state_below c top state fit w =
    record { each = All-from_get_or (λ z. unsigned_abs z ≤ top) state (pos 0) (λ i l. omega (arith, w.each i, get_or-le-greatest (state_magnitudes c) i, fit.states)) }

step_fits : (c : Numbers) (w : ℕ) (state : List ℤ) (k : ℕ) → SumsFit c (2 ^ (w - 1) - 1) → k < c.steps → pos 0 ≤ℤ c.clamp → AreWithin state (state_magnitudes c) → StepFits w c state (after c state k)
step_fits c w state k fit lt h s =
    let top = 2 ^ (w - 1) - 1 in
    let made = after c state k in
    let v = after_multipliers c state k h in
    let plan = plan_within c state (raised c made.multipliers) s v in
    record {
      raised_multipliers = all_fit w (raised c made.multipliers) (raised_below c top made.multipliers fit v);
      entries = λ j l. all_fit w (entry_values c state (raised c made.multipliers) j) (entry_below c top state (raised c made.multipliers) j (fit.entries j l) s v);
      rows = λ i l. all_fit w (row_values c state (plan_of c state (raised c made.multipliers)) (at made.multipliers i) i)
          (row_below c top state (plan_of c state (raised c made.multipliers)) (at made.multipliers i) i (fit.rows i l) (fit.next i l) h
          (clamped_at c made.multipliers i (after_tops c state k h)) s plan);
      sums = all_fit w (step_of c state made).sums (subst (λ (m : Iterate). AreBelow top m.sums) (after_suc c state k) (sums_below c top state k fit lt h s));
    }

pub values_law : ValuesLaw
values_law c xi sound grid =
    let fit = sums_fit c (2 ^ (c.width - 1) - 1) sound.fit in
    let shaped = sound.form.sized.shaped in
    let s = state_within c xi shaped.low shaped.high grid in
    record {
      state = all_fit c.width (loaded c xi) (state_below c (2 ^ (c.width - 1) - 1) (loaded c xi) fit s);
      steps = λ k l. step_fits c c.width (loaded c xi) k fit l sound.form.sized.clamp_low s;
    }
