-- The sizes of a controller: controllers of all sizes in range are in form, those of the greatest among them, and none is with a number or a list beyond.
use Rattle.std.proofs.Common.{◌≡◌, ℕ, ◌+◌, ◌*◌, ◌^◌, ◌<◌, ◌≤◌, ℤ, pos, negsuc, ◌≤ℤ◌, List, [], ◌∷◌, length, replicate, refl, ap, arith, le_refl}
use Rattle.std.specs.Prelude.{All, FitsSigned, slice_index_or}
use Rattle.std.specs.Int.{w128}
use Rattle.std.proofs.lemmas.Int.{ints}
use Rattle.std.proofs.lemmas.List.{length-replicate, get_or-replicate}
use Rattle.std.proofs.lemmas.List.Elements.{All-replicate}
use Rattle.integer_algebra.specs.Sums.{at}
use Rattle.mat_int.specs.Matrix.{Matrix}
use Rattle.qp_model.specs.problem.Limits.{most_states, most_stages, most_rows}
use Rattle.qp_model.specs.problem.Range.{LiesIn, IsNumerator}
use Rattle.qp_model.specs.machine.Controller.{Numbers, HasShape, IsShaped, IsSized, IsInForm, FitsWord}
use Rattle.trials_definitions.proofs.WorkedControllers.{matrix, ones, of_sizes}

-- ---- each list and matrix has its size
has_shape : (height breadth : ℕ) → HasShape (ones height breadth) height breadth
has_shape height breadth = record {
  rows = length-replicate height (replicate breadth (pos 1));
  cols = refl;
  each = All-replicate (λ (row : List ℤ). length row ≡ breadth) height (replicate breadth (pos 1)) (length-replicate breadth (pos 1));
}

ordered : (n i : ℕ) → i < n → at (replicate n (negsuc 2147483646)) i ≤ℤ at (replicate n (pos 2147483647)) i
ordered n i l = rw (get_or-replicate n i (negsuc 2147483646) (pos 0) l) (rw (get_or-replicate n i (pos 2147483647) (pos 0) l) (record { le = tt }))

-- ---- and may have other exponents, another clamp and another width
abbrev with_numbers : Numbers → List ℕ → ℤ → ℕ → Numbers
with_numbers c exponents clamp width = record c { exponents = exponents; clamp = clamp; width = width }

record AreInRange (version m : ℕ) (exponents : List ℕ) (clamp : ℤ) : Type 0 where
  long : length exponents ≡ m
  low : All (λ s. s ≤ 40) exponents
  same : version ≡ 1 → exponents ≡ replicate m 40
  clamp_low : pos 0 ≤ℤ clamp
  clamp_high : clamp ≤ℤ pos (2 ^ 126)

sized : (version n p N m : ℕ) (exponents : List ℕ) (clamp : ℤ) (width : ℕ) → LiesIn 1 2 version → LiesIn 1 (most_states version) n → LiesIn 1 3 p → LiesIn 1 (most_stages version) N →
    LiesIn 1 (most_rows version) m → AreInRange version m exponents clamp → IsSized (with_numbers (of_sizes version n p N m) exponents clamp width)
sized version n p N m exponents clamp width hv hn hp hN hm h = record {
  version = hv;
  states = hn;
  inputs = hp;
  stages = hN;
  rows = hm;
  grid_bits = omega arith;
  fraction_bits = (omega arith, omega arith);
  step_exponent = omega arith;
  exponents = h.low;
  same_exponents = h.same;
  steps = (omega arith, omega arith);
  clamp_low = h.clamp_low;
  clamp_high = h.clamp_high;
  words = refl;
  shaped = record {
    exponents = h.long;
    low = length-replicate n (negsuc 2147483646);
    high = length-replicate n (pos 2147483647);
    state_gains = has_shape (p * N) n;
    offsets = length-replicate (p * N) (pos 1);
    dual_gains = has_shape (p * N) m;
    plan_rows = has_shape m (p * N);
    state_rows = has_shape m n;
    bounds = length-replicate m (pos 1);
  };
  low = All-replicate (λ z. IsNumerator z) n (negsuc 2147483646) (omega arith);
  high = All-replicate (λ z. IsNumerator z) n (pos 2147483647) (omega arith);
  box = ordered n;
}

-- ---- controllers of all sizes, with the greatest numbers
greatest_numbers : (version m : ℕ) → AreInRange version m (replicate m 40) (pos (2 ^ 126))
greatest_numbers version m = record {
  long = length-replicate m 40;
  low = All-replicate (λ s. s ≤ 40) m 40 (le_refl 40);
  same = λ first. refl;
  clamp_low = record { le = tt };
  clamp_high = record { le = tt };
}

in_form : (version n p N m : ℕ) → LiesIn 1 2 version → LiesIn 1 (most_states version) n → LiesIn 1 3 p → LiesIn 1 (most_stages version) N → LiesIn 1 (most_rows version) m →
    IsInForm (of_sizes version n p N m)
in_form version n p N m hv hn hp hN hm =
    record { sized = sized version n p N m (replicate m 40) (pos (2 ^ 126)) 128 hv hn hp hN hm (greatest_numbers version m); width = (omega arith, omega arith) }

-- the greatest of each version, and the least
first_greatest : IsInForm (of_sizes 1 4 3 20 252)
first_greatest = in_form 1 4 3 20 252 (omega arith, omega arith) (omega arith, omega arith) (omega arith, omega arith) (omega arith, omega arith) (omega arith, omega arith)

greatest : IsInForm (of_sizes 2 6 3 30 372)
greatest = in_form 2 6 3 30 372 (omega arith, omega arith) (omega arith, omega arith) (omega arith, omega arith) (omega arith, omega arith) (omega arith, omega arith)

least : IsInForm (of_sizes 1 1 1 1 1)
least = in_form 1 1 1 1 1 (omega arith, omega arith) (omega arith, omega arith) (omega arith, omega arith) (omega arith, omega arith) (omega arith, omega arith)

-- ---- with one number beyond its range
abbrev some_sizes : Numbers
some_sizes = of_sizes 2 2 3 5 4

some_sized : (exponents : List ℕ) (clamp : ℤ) (width : ℕ) → AreInRange 2 4 exponents clamp → IsSized (with_numbers some_sizes exponents clamp width)
some_sized exponents clamp width = sized 2 2 3 5 4 exponents clamp width (omega arith, omega arith) (omega arith, omega arith) (omega arith, omega arith) (omega arith, omega arith) (omega arith, omega arith)

no_version : IsSized (record some_sizes { version = 0 }) → ⊥
no_version h = omega (arith, h.version.0)

next_version : IsSized (record some_sizes { version = 3 }) → ⊥
next_version h = omega (arith, h.version.1)

no_state : IsSized (record some_sizes { states = 0 }) → ⊥
no_state h = omega (arith, h.states.0)

many_states : IsSized (record some_sizes { states = 7 }) → ⊥
many_states h = omega (arith, h.states.1)

many_states_first : IsSized (record some_sizes { version = 1; states = 5 }) → ⊥
many_states_first h = omega (arith, h.states.1)

no_input : IsSized (record some_sizes { inputs = 0 }) → ⊥
no_input h = omega (arith, h.inputs.0)

many_inputs : IsSized (record some_sizes { inputs = 4 }) → ⊥
many_inputs h = omega (arith, h.inputs.1)

no_stage : IsSized (record some_sizes { stages = 0 }) → ⊥
no_stage h = omega (arith, h.stages.0)

many_stages : IsSized (record some_sizes { stages = 31 }) → ⊥
many_stages h = omega (arith, h.stages.1)

many_stages_first : IsSized (record some_sizes { version = 1; stages = 21 }) → ⊥
many_stages_first h = omega (arith, h.stages.1)

no_row : IsSized (record some_sizes { rows = 0 }) → ⊥
no_row h = omega (arith, h.rows.0)

many_rows : IsSized (record some_sizes { rows = 373 }) → ⊥
many_rows h = omega (arith, h.rows.1)

many_rows_first : IsSized (record some_sizes { version = 1; rows = 253 }) → ⊥
many_rows_first h = omega (arith, h.rows.1)

many_grid_bits : IsSized (record some_sizes { grid_bits = 25 }) → ⊥
many_grid_bits h = omega (arith, h.grid_bits)

few_fraction_bits : IsSized (record some_sizes { fraction_bits = 23 }) → ⊥
few_fraction_bits h = omega (arith, h.fraction_bits.0)

many_fraction_bits : IsSized (record some_sizes { fraction_bits = 49 }) → ⊥
many_fraction_bits h = omega (arith, h.fraction_bits.1)

great_step_exponent : IsSized (record some_sizes { step_exponent = 41 }) → ⊥
great_step_exponent h = omega (arith, h.step_exponent)

great_exponent : IsSized (record some_sizes { exponents = 41 ∷ [] }) → ⊥
great_exponent h = omega (arith, h.exponents 0 0 (omega arith))

-- a smaller exponent of a row is in range, but not in the first version
small_exponents : AreInRange 2 4 (replicate 4 39) (pos (2 ^ 126))
small_exponents = record { long = refl; low = All-replicate (λ s. s ≤ 40) 4 39 (omega arith); same = λ e. absurd (omega (arith, e)); clamp_low = record { le = tt }; clamp_high = record { le = tt } }

lowered : IsSized (record some_sizes { exponents = replicate 4 39 })
lowered = some_sized (replicate 4 39) (pos (2 ^ 126)) 128 small_exponents

lowered_first : IsSized (record some_sizes { version = 1; exponents = replicate 4 39 }) → ⊥
lowered_first h = omega (arith, ap (λ (xs : List ℕ). slice_index_or xs 0 0) (h.same_exponents refl))

no_step : IsSized (record some_sizes { steps = 0 }) → ⊥
no_step h = omega (arith, h.steps.0)

many_steps : IsSized (record some_sizes { steps = 4194305 }) → ⊥
many_steps h = omega (arith, h.steps.1)

no_clamp : AreInRange 2 4 (replicate 4 40) (pos 0)
no_clamp = record { long = refl; low = (greatest_numbers 2 4).low; same = λ e. refl; clamp_low = record { le = tt }; clamp_high = record { le = tt } }

clamp_of_0 : IsSized (record some_sizes { clamp = pos 0 })
clamp_of_0 = some_sized (replicate 4 40) (pos 0) 128 no_clamp

clamp_below : IsSized (record some_sizes { clamp = negsuc 0 }) → ⊥
clamp_below h = h.clamp_low.le

clamp_above : IsSized (record some_sizes { clamp = pos (2 ^ 126 + 1) }) → ⊥
clamp_above h = h.clamp_high.le

words_are : some_sizes.words ≡ 36
words_are = refl

words_less : IsSized (record some_sizes { words = 35 }) → ⊥
words_less h = omega (arith, h.words)

low_beyond : IsSized (record some_sizes { low = replicate 2 (negsuc 2147483647) }) → ⊥
low_beyond h = omega (arith, h.low 0 (pos 0) (omega arith))

high_beyond : IsSized (record some_sizes { high = replicate 2 (pos 2147483648) }) → ⊥
high_beyond h = omega (arith, h.high 0 (pos 0) (omega arith))

-- the second coordinate's bounds aren't in order
reversed : IsSized (record some_sizes { low = pos 0 ∷ pos 1 ∷ []; high = pos 0 ∷ pos 0 ∷ [] }) → ⊥
reversed h = (h.box 1 (omega arith)).le

reversed_of_one_input : IsSized (record some_sizes { inputs = 1; low = pos 0 ∷ pos 1 ∷ []; high = pos 0 ∷ pos 0 ∷ [] }) → ⊥
reversed_of_one_input h = (h.box 1 (omega arith)).le

width_of_2 : IsInForm (record some_sizes { width = 2 })
width_of_2 = record { sized = some_sized (replicate 4 40) (pos (2 ^ 126)) 2 (greatest_numbers 2 4); width = (omega arith, omega arith) }

width_of_1 : IsInForm (record some_sizes { width = 1 }) → ⊥
width_of_1 h = omega (arith, h.width.0)

width_of_129 : IsInForm (record some_sizes { width = 129 }) → ⊥
width_of_129 h = omega (arith, h.width.1)

-- ---- with a list or a matrix of another size
short_exponents : IsShaped (record some_sizes { exponents = [] }) → ⊥
short_exponents h = omega (arith, h.exponents)

short_low : IsShaped (record some_sizes { low = [] }) → ⊥
short_low h = omega (arith, h.low)

short_high : IsShaped (record some_sizes { high = [] }) → ⊥
short_high h = omega (arith, h.high)

short_offsets : IsShaped (record some_sizes { offsets = [] }) → ⊥
short_offsets h = omega (arith, h.offsets)

short_bounds : IsShaped (record some_sizes { bounds = [] }) → ⊥
short_bounds h = omega (arith, h.bounds)

short_rows : HasShape (record { cols = 1; rows = [] }) 1 1 → ⊥
short_rows h = omega (arith, h.rows)

other_columns : HasShape (record { cols = 2; rows = (pos 1 ∷ []) ∷ [] }) 1 1 → ⊥
other_columns h = omega (arith, h.cols)

uneven_rows : HasShape (record { cols = 1; rows = (pos 1 ∷ pos 2 ∷ []) ∷ [] }) 1 1 → ⊥
uneven_rows h = omega (arith, h.each 0 [] (omega arith))

-- ---- with a number that fits no word of 128 bits in one list or matrix
each_fits : (n : ℕ) → All (FitsSigned w128) (replicate n (pos 1))
each_fits n = All-replicate (FitsSigned w128) n (pos 1) (omega (arith, ints))

matrix_fits : (height breadth : ℕ) → All (All (FitsSigned w128)) (ones height breadth).rows
matrix_fits height breadth = All-replicate (All (FitsSigned w128)) height (replicate breadth (pos 1)) (each_fits breadth)

fits_word : (version n p N m : ℕ) → FitsWord (of_sizes version n p N m)
fits_word version n p N m = record {
  state_gains = matrix_fits (p * N) n;
  offsets = each_fits (p * N);
  dual_gains = matrix_fits (p * N) m;
  plan_rows = matrix_fits m (p * N);
  state_rows = matrix_fits m n;
  bounds = each_fits m;
}

abbrev wide : Matrix
wide = matrix 1 ((pos (2 ^ 127) ∷ []) ∷ [])

wide_offset : FitsWord (record some_sizes { offsets = pos (2 ^ 127) ∷ [] }) → ⊥
wide_offset h = omega (arith, ints, h.offsets 0 (pos 0) (omega arith))

wide_bound : FitsWord (record some_sizes { bounds = pos (2 ^ 127) ∷ [] }) → ⊥
wide_bound h = omega (arith, ints, h.bounds 0 (pos 0) (omega arith))

wide_state_gain : FitsWord (record some_sizes { state_gains = wide }) → ⊥
wide_state_gain h = omega (arith, ints, h.state_gains 0 [] (omega arith) 0 (pos 0) (omega arith))

wide_dual_gain : FitsWord (record some_sizes { dual_gains = wide }) → ⊥
wide_dual_gain h = omega (arith, ints, h.dual_gains 0 [] (omega arith) 0 (pos 0) (omega arith))

wide_plan_row : FitsWord (record some_sizes { plan_rows = wide }) → ⊥
wide_plan_row h = omega (arith, ints, h.plan_rows 0 [] (omega arith) 0 (pos 0) (omega arith))

wide_state_row : FitsWord (record some_sizes { state_rows = wide }) → ⊥
wide_state_row h = omega (arith, ints, h.state_rows 0 [] (omega arith) 0 (pos 0) (omega arith))
