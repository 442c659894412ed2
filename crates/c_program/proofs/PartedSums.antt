-- The expressions of a controller's program in two parts: C defines them, and they have the values of the controller's machine.
use Rattle.std.proofs.Common.{◌≡◌, ℕ, zero, suc, ◌+◌, ◌-◌, ◌*◌, ◌^◌, ◌<◌, ◌≤◌, inl, inr, true, false, if◌then◌else◌, ℤ, pos, ◌+ℤ◌, ◌-ℤ◌, ◌*ℤ◌, neg_ℤ, ◌≤ℤ◌, List, [], ◌∷◌, length, unsigned_abs, refl, sym, ap, subst, ◌∙◌, arith, le_refl}
use Rattle.std.proofs.lemmas.Bool.{cases_Bool, cond_both, cond-true, cond-false}
use Rattle.std.proofs.lemmas.Int.{ints}
use Rattle.std.proofs.lemmas.Nat.{mul-le, pow_pos}
use Rattle.std.proofs.lemmas.List.{length-map}
use Rattle.std.proofs.Math.Pow.{pow_mono}
use Rattle.integer_algebra.specs.Division.{floor_of, ceil_div}
use Rattle.integer_algebra.specs.Sums.{total, at}
use Rattle.integer_algebra.specs.Sizes.{amount}
use Rattle.integer_algebra.proofs.Quoting.{by_ring, quotes}
use Rattle.integer_algebra.proofs.SumLaws.{total_same, total_add, total_neg, total_scale}
use Rattle.integer_algebra.proofs.AmountLaws.{amount_mono, amount_most}
use Rattle.integer_algebra.proofs.SizeLaws.{dot_bound}
use Rattle.integer_algebra.proofs.RingLaws.{neg-mul_z}
use Rattle.mat_int.specs.Row.{list_dot}
use Rattle.mat_int.proofs.Indices.{dot_is}
use Rattle.mat_int.specs.Matrix.{row_of}
use Rattle.qp_model.specs.machine.Controller.{Numbers, plan_length, IsShaped}
use Rattle.qp_model.specs.machine.Machine.{IsAdmissible, lowering_of, loaded, raised, entry_sum, plan_entry, row_sum}
use Rattle.qp_model.specs.machine.AbsoluteSums.{weighted_abs_sum, state_magnitudes, clamp_magnitudes, plan_magnitudes, entry_absolute_sum, row_absolute_sum, next_magnitude}
use Rattle.qp_model.specs.machine.Within.{AreWithin}
use Rattle.qp_model.specs.machine.ValuesMet.{FitsWidth}
use Rattle.qp_model.proofs.AbsoluteLaws.{abs-shifted, abs-neg, abs-floor_le_ceil, ceil_div_mono}
use Rattle.qp_model.proofs.MagnitudeLaws.{state_within}
use Rattle.qp_model.proofs.VersionLaws.{states_le, stages_le, limits_le}
use Rattle.overflow_check.specs.Machines.{IsControllerFor}
use Rattle.overflow_check.specs.FastMachine.{all_weights}
use Rattle.overflow_check.specs.FastController.{with_last_version}
use Rattle.overflow_check.specs.declared.machine.Machine.{Machine}
use Rattle.overflow_check.specs.declared.machine.Machine.TheVariants.{Plain, Accelerated}
use Rattle.overflow_check.proofs.Machines.{as_last}
use Rattle.overflow_check.proofs.SumLaws.{SumsFit, sums_fit}
use Rattle.overflow_check.proofs.Sizes.{length-plan_reach}
use Rattle.fast_machine.proofs.WeightSums.{twice_weights}
use Rattle.c_language.specs.Syntax.{Family, variable, bits_of, Expression}
use Rattle.c_language.specs.Syntax.Family.{Loaded, EntryBase, RowBase, Multiplier, Difference, Gradient, MultiplierHigh, MultiplierLow, EntryHigh, EntryLow, EntryBaseHigh, RowBaseHigh, GradientHigh}
use Rattle.c_language.specs.Syntax.Expression.{Constant, Value, Minus}
use Rattle.c_language.specs.Meaning.{Environment, held}
use Rattle.c_program.specs.Of.{kind_for, high_top, state_top, multiplier_top, entry_top, plus_products, partner, is_first, is_second, gain_of, gain_variable}
use Rattle.c_program.specs.InParts.{high_part, low_part, parted_offset, parted_entry, parted_bound, plus_gains, plus_entries, row_part, parted_row, HasParts}
use Rattle.c_program.proofs.Terms.{Makes, kind_fits, makes_same, makes_constant, makes_value, makes_plus, makes_minus, abs-sub_le, makes_products, zero_abs}
use Rattle.c_program.proofs.PartedNumbers.{low_top, parts_whole, high_le, low_le, parted_shift_made, makes_used}
use Rattle.c_program.proofs.Amounts.{weighted_is, plain_total, scaled_total, scaled_amount}
use Rattle.c_program.proofs.Parts.{row_long, entry_base, row_base, held_state, held_loaded, entry_le, row_order, row_sum_le}
use Rattle.c_program.proofs.Pairs.{IsPair, Stand, AreMultipliers, pair_there, later_there, less_gain, gains_are, gains_amount, difference_le}

-- ---- what the lemmas need of a controller and a state over 2^fraction_bits
pub record PartedReady (m : Machine) (c : Numbers) (state : List ℤ) : Type 0 where
  pub shaped : IsShaped c
  pub fit : SumsFit c (2 ^ 78 - 1)
  pub nonneg : pos 0 ≤ℤ c.clamp
  pub short : c.fraction_bits ≤ 48
  pub within : AreWithin state (state_magnitudes c)
  pub long : length state ≡ c.states
  pub parts : HasParts m c
  pub states : c.states ≤ 6
  pub rows : length c.bounds ≤ 372
  pub entries : length c.offsets ≤ 90
  pub next : (i : ℕ) → i < length c.bounds → next_magnitude c i < 2 ^ 63
  pub tops : (j : ℕ) → j < length c.offsets → entry_top c j < 2 ^ 63

some_weights : (n : ℕ) → 1 ≤ n → 1 ≤ all_weights n
some_weights n h = omega (arith, twice_weights n, h)

next_below : (m : Machine) (c : Numbers) → HasParts m c → (i : ℕ) → i < length c.bounds → next_magnitude c i < 2 ^ 63
next_below Plain c parts i l = parts.moved i l
next_below Accelerated c parts i l =
    let z = ceil_div (row_absolute_sum c i) (2 ^ c.fraction_bits) in
    omega (arith, parts.moved i l, mul-le 1 z (c.steps + 1) z (omega arith) (le_refl z))

tops_below : (m : Machine) (c : Numbers) → HasParts m c → 1 ≤ c.steps → (j : ℕ) → j < length c.offsets → entry_top c j < 2 ^ 63
tops_below Plain c parts some j l = omega (arith, parts.sums j l, mul-le 1 (entry_top c j) c.steps (entry_top c j) some (le_refl (entry_top c j)))
tops_below Accelerated c parts some j l =
    omega (arith, parts.sums j l, mul-le 1 (entry_top c j) (all_weights c.steps) (entry_top c j) (some_weights c.steps some) (le_refl (entry_top c j)))

pub parted_ready : (m : Machine) (c : Numbers) (xi : List ℤ) → IsControllerFor m c → HasParts m c → IsAdmissible c xi → PartedReady m c (loaded c xi)
parted_ready m c xi sound parts grid =
    let last = as_last m c sound in
    let sized = last.form.sized in
    let s = sized.shaped in
    let power : 2 ^ (c.width - 1) ≤ 2 ^ 78 = pow_mono {i = c.width - 1} {j = 78} (omega (arith, parts.width)) in
    let f = sums_fit (with_last_version c) (2 ^ 78 - 1) (omega (arith, last.fit, power)) in
    record {
      shaped = record {
        exponents = s.exponents;
        low = s.low;
        high = s.high;
        state_gains = s.state_gains;
        offsets = s.offsets;
        dual_gains = s.dual_gains;
        plan_rows = s.plan_rows;
        state_rows = s.state_rows;
        bounds = s.bounds;
      };
      fit = record { states = f.states; entries = f.entries; rows = f.rows; next = f.next; sums = f.sums };
      nonneg = sized.clamp_low;
      short = sized.fraction_bits.1;
      within = state_within c xi s.low s.high grid;
      long = length-map xi (λ x. x *ℤ pos (2 ^ (c.fraction_bits - c.grid_bits))) ∙ grid.long;
      parts = parts;
      states = states_le (with_last_version c) sized;
      rows = omega (arith, limits_le (with_last_version c) sized, s.bounds);
      entries = omega (arith, s.offsets, mul-le c.inputs c.stages 3 30 sized.inputs.1 (stages_le (with_last_version c) sized));
      next = next_below m c parts;
      tops = tops_below m c parts sized.steps.0;
    }

-- ---- before the loop
-- no part of a sum is above this
abbrev pub part_top : ℕ
part_top = 2 ^ 63 - 1

-- a number and the state's products, with one part of each coefficient
abbrev pub base_high : Numbers → List ℤ → ℤ → (ℕ → ℤ) → ℤ
base_high c state z coefficient = high_part z +ℤ total c.states (λ k. high_part (coefficient k) *ℤ at state k)

abbrev pub base_low : Numbers → List ℤ → ℤ → (ℕ → ℤ) → ℤ
base_low c state z coefficient = low_part z +ℤ total c.states (λ k. low_part (coefficient k) *ℤ at state k)

abbrev pub entry_factor : Numbers → (j k : ℕ) → ℤ
entry_factor c j k = at (row_of c.state_gains j) k *ℤ pos (2 ^ c.step_exponent)

abbrev pub entry_base_high : Numbers → List ℤ → ℕ → ℤ
entry_base_high c state j = base_high c state (parted_offset c j) (entry_factor c j)

abbrev pub entry_base_low : Numbers → List ℤ → ℕ → ℤ
entry_base_low c state j = base_low c state (parted_offset c j) (entry_factor c j)

abbrev pub row_base_high : Numbers → List ℤ → ℕ → ℤ
row_base_high c state i = base_high c state (parted_bound c i) (at (row_of c.state_rows i))

abbrev pub row_base_low : Numbers → List ℤ → ℕ → ℤ
row_base_low c state i = base_low c state (parted_bound c i) (at (row_of c.state_rows i))

-- both are the number and the products
parts_total : (n : ℕ) (high low whole : ℕ → ℤ) → ((i : ℕ) → i < n → pos (2 ^ 16) *ℤ high i +ℤ low i ≡ whole i) → pos (2 ^ 16) *ℤ total n high +ℤ total n low ≡ total n whole
parts_total n high low whole each =
    let q = pos (2 ^ 16) in
    ap (λ (x : ℤ). x +ℤ total n low) (sym (total_scale n q high)) ∙ sym (total_add n (λ i. q *ℤ high i) low) ∙ total_same n (λ i. q *ℤ high i +ℤ low i) whole each

-- the parts of a sum of two
parts_sum : (q a b x y : ℤ) → q *ℤ (a +ℤ x) +ℤ (b +ℤ y) ≡ (q *ℤ a +ℤ b) +ℤ (q *ℤ x +ℤ y)
parts_sum q a b x y = by_ring (q ∷ a ∷ b ∷ x ∷ y ∷ []) (search quotes depth 60 fits 20000) refl

added_parts : (high low x y z w : ℤ) → pos (2 ^ 16) *ℤ high +ℤ low ≡ z → pos (2 ^ 16) *ℤ x +ℤ y ≡ w → pos (2 ^ 16) *ℤ (high +ℤ x) +ℤ (low +ℤ y) ≡ z +ℤ w
added_parts high low x y z w h k = parts_sum (pos (2 ^ 16)) high low x y ∙ (λ i. h i +ℤ k i)

first_parts : (x y : ℤ) → pos (2 ^ 16) *ℤ (high_part x *ℤ y) +ℤ low_part x *ℤ y ≡ x *ℤ y
first_parts x y = joined (pos (2 ^ 16)) (high_part x) (low_part x) y ∙ ap (λ (z : ℤ). z *ℤ y) (parts_whole x)
  where
    joined : (q h l y : ℤ) → q *ℤ (h *ℤ y) +ℤ l *ℤ y ≡ (q *ℤ h +ℤ l) *ℤ y
    joined q h l y = by_ring (q ∷ h ∷ l ∷ y ∷ []) (search quotes depth 60 fits 20000) refl

second_parts : (x y : ℤ) → pos (2 ^ 16) *ℤ (x *ℤ high_part y) +ℤ x *ℤ low_part y ≡ x *ℤ y
second_parts x y = joined (pos (2 ^ 16)) (high_part y) (low_part y) x ∙ ap (λ (z : ℤ). x *ℤ z) (parts_whole y)
  where
    joined : (q h l x : ℤ) → q *ℤ (x *ℤ h) +ℤ x *ℤ l ≡ x *ℤ (q *ℤ h +ℤ l)
    joined q h l x = by_ring (q ∷ h ∷ l ∷ x ∷ []) (search quotes depth 60 fits 20000) refl

base_whole : (c : Numbers) (state : List ℤ) (z : ℤ) (coefficient : ℕ → ℤ) →
    pos (2 ^ 16) *ℤ base_high c state z coefficient +ℤ base_low c state z coefficient ≡ z +ℤ total c.states (λ k. coefficient k *ℤ at state k)
base_whole c state z coefficient =
    added_parts (high_part z) (low_part z) _ _ z (total c.states (λ k. coefficient k *ℤ at state k)) (parts_whole z)
    (parts_total c.states (λ k. high_part (coefficient k) *ℤ at state k) (λ k. low_part (coefficient k) *ℤ at state k) (λ k. coefficient k *ℤ at state k)
    (λ k l. first_parts (coefficient k) (at state k)))

entry_base_whole : (m : Machine) (c : Numbers) (state : List ℤ) (j : ℕ) → PartedReady m c state → j < length c.offsets →
    pos (2 ^ 16) *ℤ entry_base_high c state j +ℤ entry_base_low c state j ≡ entry_base c state j
entry_base_whole m c state j r l =
    let row = row_of c.state_gains j in
    let q = pos (2 ^ c.step_exponent) in
    let offset = at c.offsets j *ℤ pos (2 ^ c.fraction_bits) in
    let long = row_long c.state_gains (plan_length c) c.states j r.shaped.state_gains (omega (arith, l, r.shaped.offsets)) in
    base_whole c state (parted_offset c j) (entry_factor c j) ∙
    ap (λ (z : ℤ). offset *ℤ q +ℤ z) (scaled_total c.states row state q (at state) long r.long (λ k m. refl)) ∙ joined (list_dot row state) offset q
  where
    joined : (own offset q : ℤ) → offset *ℤ q +ℤ own *ℤ q ≡ (own +ℤ offset) *ℤ q
    joined own offset q = by_ring (own ∷ offset ∷ q ∷ []) (search quotes depth 60 fits 20000) refl

row_base_whole : (m : Machine) (c : Numbers) (state : List ℤ) (i : ℕ) → PartedReady m c state → i < length c.bounds →
    pos (2 ^ 16) *ℤ row_base_high c state i +ℤ row_base_low c state i ≡ row_base c state i
row_base_whole m c state i r l =
    let row = row_of c.state_rows i in
    let long = row_long c.state_rows c.rows c.states i r.shaped.state_rows (omega (arith, l, r.shaped.bounds)) in
    base_whole c state (parted_bound c i) (at row) ∙ ap (λ (z : ℤ). parted_bound c i +ℤ z) (plain_total c.states row state (at state) long r.long (λ k m. refl))

-- ---- how great they are
high_size : (x : ℤ) → 2 ^ 16 * unsigned_abs (high_part x) ≤ unsigned_abs x + 2 ^ 16
high_size x = omega (arith, high_le x (unsigned_abs x) (le_refl (unsigned_abs x)))

high_amount : (n : ℕ) (f : ℕ → ℤ) (t : ℕ → ℕ) → 2 ^ 16 * amount n (λ k. unsigned_abs (high_part (f k)) * t k) ≤ amount n (λ k. unsigned_abs (f k) * t k) + 2 ^ 16 * amount n t
high_amount zero f t = omega arith
high_amount (suc n) f t =
    omega (arith, high_amount n f t, mul-le (2 ^ 16 * unsigned_abs (high_part (f n))) (t n) (unsigned_abs (f n) + 2 ^ 16) (t n) (high_size (f n)) (le_refl (t n)))

low_amount : (n : ℕ) (f : ℕ → ℤ) (t : ℕ → ℕ) → amount n (λ k. unsigned_abs (low_part (f k)) * t k) ≤ low_top * amount n t
low_amount zero f t = omega arith
low_amount (suc n) f t = omega (arith, low_amount n f t, mul-le (unsigned_abs (low_part (f n))) (t n) low_top (t n) (low_le (f n)) (le_refl (t n)))

-- of products with numbers within a high part's top, and a low part's
tops_amount : (n : ℕ) (f t : ℕ → ℕ) → 2 ^ 16 * amount n (λ k. f k * high_top (t k)) ≤ amount n (λ k. f k * t k) + 2 ^ 16 * amount n f
tops_amount zero f t = omega arith
tops_amount (suc n) f t =
    omega (arith, tops_amount n f t, mul-le (f n) (2 ^ 16 * high_top (t n)) (f n) (t n + 2 ^ 16) (le_refl (f n)) (omega arith))

lows_amount : (n : ℕ) (f : ℕ → ℕ) → amount n (λ k. f k * low_top) ≡ low_top * amount n f
lows_amount zero f = omega arith
lows_amount (suc n) f = omega (arith, lows_amount n f)

-- so many numbers below 2^37
few_amount : (n most : ℕ) (f : ℕ → ℕ) → n ≤ most → ((i : ℕ) → i < n → f i < 2 ^ 37) → amount n f ≤ most * 2 ^ 37
few_amount n most f h each = omega (arith, amount_most n f (2 ^ 37) (λ i l. omega (arith, each i l)), mul-le n (2 ^ 37) most (2 ^ 37) h (le_refl (2 ^ 37)))

-- of a number and the state's products
abbrev base_size : Numbers → ℤ → (ℕ → ℤ) → ℕ
base_size c z coefficient = unsigned_abs z + amount c.states (λ k. unsigned_abs (coefficient k) * state_top c k)

abbrev base_high_top : Numbers → ℤ → (ℕ → ℤ) → ℕ
base_high_top c z coefficient = high_top (unsigned_abs z) + amount c.states (λ k. unsigned_abs (high_part (coefficient k)) * state_top c k)

abbrev base_low_top : Numbers → (ℕ → ℤ) → ℕ
base_low_top c coefficient = low_top + amount c.states (λ k. unsigned_abs (low_part (coefficient k)) * state_top c k)

states_amount : (m : Machine) (c : Numbers) (state : List ℤ) → PartedReady m c state → amount c.states (state_top c) ≤ 6 * 2 ^ 37
states_amount m c state r = few_amount c.states 6 (state_top c) r.states r.parts.states

base_high_below : (m : Machine) (c : Numbers) (state : List ℤ) (z : ℤ) (coefficient : ℕ → ℤ) → PartedReady m c state →
    2 ^ 16 * base_high_top c z coefficient ≤ base_size c z coefficient + 2 ^ 16 * (1 + 6 * 2 ^ 37)
base_high_below m c state z coefficient r = omega (arith, states_amount m c state r, high_amount c.states coefficient (state_top c))

base_low_below : (m : Machine) (c : Numbers) (state : List ℤ) (coefficient : ℕ → ℤ) → PartedReady m c state → base_low_top c coefficient ≤ low_top * (1 + 6 * 2 ^ 37)
base_low_below m c state coefficient r = omega (arith, states_amount m c state r, low_amount c.states coefficient (state_top c))

-- that of a plan entry with the multipliers' products
entry_size : (m : Machine) (c : Numbers) (state : List ℤ) (j : ℕ) → PartedReady m c state → j < length c.offsets →
    base_size c (parted_offset c j) (entry_factor c j) + weighted_abs_sum (row_of c.dual_gains j) (clamp_magnitudes c) ≡ entry_absolute_sum c j
entry_size m c state j r l =
    let row = row_of c.state_gains j in
    let long = row_long c.state_gains (plan_length c) c.states j r.shaped.state_gains (omega (arith, l, r.shaped.offsets)) in
    let f = c.fraction_bits in
    let s = c.step_exponent in
    let size = unsigned_abs (at c.offsets j) * 2 ^ f in
    let own = weighted_abs_sum row (state_magnitudes c) in
    let constant : unsigned_abs (parted_offset c j) ≡ size * 2 ^ s =
    abs-shifted (at c.offsets j *ℤ pos (2 ^ f)) s ∙ ap (λ (a : ℕ). a * 2 ^ s) (abs-shifted (at c.offsets j) f) in
    let most : size * 2 ^ s + own * 2 ^ s ≡ (own + size) * 2 ^ s = omega arith in
    omega (arith, constant, most, scaled_amount c.states row (state_magnitudes c) s long (sym r.within.long ∙ r.long))

-- that of a row with the plan's products
row_base_size : (m : Machine) (c : Numbers) (state : List ℤ) (i : ℕ) → PartedReady m c state → i < length c.bounds →
    base_size c (parted_bound c i) (at (row_of c.state_rows i)) + weighted_abs_sum (row_of c.plan_rows i) (plan_magnitudes c) ≡ row_absolute_sum c i
row_base_size m c state i r l =
    let row = row_of c.state_rows i in
    let long = row_long c.state_rows c.rows c.states i r.shaped.state_rows (omega (arith, l, r.shaped.bounds)) in
    let bound = at c.bounds i *ℤ pos (2 ^ c.fraction_bits) in
    let constant : unsigned_abs (parted_bound c i) ≡ unsigned_abs (at c.bounds i) * 2 ^ c.fraction_bits = abs-neg bound ∙ abs-shifted (at c.bounds i) c.fraction_bits in
    omega (arith, constant, weighted_is c.states row (state_magnitudes c) long (sym r.within.long ∙ r.long))

-- ---- made before the loop
-- the state is loaded
abbrev pub IsLoaded : Numbers → List ℤ → Environment → Type 0
IsLoaded c state e = (k : ℕ) → k < c.states → e Loaded k ≡ at state k

base_high_made : (m : Machine) (c : Numbers) (state : List ℤ) (e : Environment) (z : ℤ) (coefficient : ℕ → ℤ) → PartedReady m c state → base_size c z coefficient < 2 ^ 78 → IsLoaded c state e →
    Makes e (plus_products (Constant (high_part z)) (λ k. high_part (coefficient k)) (state_top c) (variable Loaded) c.states) (base_high c state z coefficient) (base_high_top c z coefficient)
base_high_made m c state e z coefficient r h loaded =
    let factor = λ (k : ℕ). high_part (coefficient k) in
    let room : base_high_top c z coefficient < 2 ^ 63 = omega (arith, h, base_high_below m c state z coefficient r) in
    makes_same e _ _ _ _ _
    (makes_products e (Constant (high_part z)) factor (state_top c) (variable Loaded) c.states (high_part z) (high_top (unsigned_abs z))
    (makes_constant e (high_part z) (high_top (unsigned_abs z)) (high_le z (unsigned_abs z) (le_refl (unsigned_abs z))) (omega (arith, room)))
    (λ k l. rw (loaded k l) (r.within.each k)) room)
    (ap (λ (y : ℤ). high_part z +ℤ y) (total_same c.states (λ k. factor k *ℤ e Loaded k) (λ k. factor k *ℤ at state k) (λ k l. ap (λ (y : ℤ). factor k *ℤ y) (loaded k l)))) (omega arith)

base_low_made : (m : Machine) (c : Numbers) (state : List ℤ) (e : Environment) (z : ℤ) (coefficient : ℕ → ℤ) → PartedReady m c state → IsLoaded c state e →
    Makes e (plus_products (Constant (low_part z)) (λ k. low_part (coefficient k)) (state_top c) (variable Loaded) c.states) (base_low c state z coefficient) (base_low_top c coefficient)
base_low_made m c state e z coefficient r loaded =
    let factor = λ (k : ℕ). low_part (coefficient k) in
    let room : base_low_top c coefficient < 2 ^ 63 = omega (arith, base_low_below m c state coefficient r) in
    makes_same e _ _ _ _ _
    (makes_products e (Constant (low_part z)) factor (state_top c) (variable Loaded) c.states (low_part z) low_top
    (makes_constant e (low_part z) low_top (low_le z) (omega arith)) (λ k l. rw (loaded k l) (r.within.each k)) room)
    (ap (λ (y : ℤ). low_part z +ℤ y) (total_same c.states (λ k. factor k *ℤ e Loaded k) (λ k. factor k *ℤ at state k) (λ k l. ap (λ (y : ℤ). factor k *ℤ y) (loaded k l)))) (omega arith)

-- the same within what each part is within
under_top : (e : Environment) (a : Expression) (z : ℤ) (most : ℕ) → Makes e a z most → most ≤ part_top → Makes e a z part_top
under_top e a z most m h = makes_same e a z z most part_top m refl h

pub entry_base_high_made : (m : Machine) (c : Numbers) (state : List ℤ) (e : Environment) (j : ℕ) → PartedReady m c state → j < length c.offsets → IsLoaded c state e →
    Makes e (plus_products (Constant (high_part (parted_offset c j))) (λ k. high_part (entry_factor c j k)) (state_top c) (variable Loaded) c.states) (entry_base_high c state j) part_top
entry_base_high_made m c state e j r l loaded =
    let size : base_size c (parted_offset c j) (entry_factor c j) < 2 ^ 78 = omega (arith, entry_size m c state j r l, r.fit.entries j l) in
    under_top e _ _ _ (base_high_made m c state e (parted_offset c j) (entry_factor c j) r size loaded) (omega (arith, size, base_high_below m c state (parted_offset c j) (entry_factor c j) r))

pub entry_base_low_made : (m : Machine) (c : Numbers) (state : List ℤ) (e : Environment) (j : ℕ) → PartedReady m c state → j < length c.offsets → IsLoaded c state e →
    Makes e (plus_products (Constant (low_part (parted_offset c j))) (λ k. low_part (entry_factor c j k)) (state_top c) (variable Loaded) c.states) (entry_base_low c state j) part_top
entry_base_low_made m c state e j r l loaded =
    under_top e _ _ _ (base_low_made m c state e (parted_offset c j) (entry_factor c j) r loaded) (omega (arith, base_low_below m c state (entry_factor c j) r))

pub row_base_high_made : (m : Machine) (c : Numbers) (state : List ℤ) (e : Environment) (i : ℕ) → PartedReady m c state → i < length c.bounds → IsLoaded c state e →
    Makes e (plus_products (Constant (high_part (parted_bound c i))) (λ k. high_part (at (row_of c.state_rows i) k)) (state_top c) (variable Loaded) c.states) (row_base_high c state i) part_top
row_base_high_made m c state e i r l loaded =
    let row = at (row_of c.state_rows i) in
    let size : base_size c (parted_bound c i) row < 2 ^ 78 = omega (arith, row_base_size m c state i r l, r.fit.rows i l) in
    under_top e _ _ _ (base_high_made m c state e (parted_bound c i) row r size loaded) (omega (arith, size, base_high_below m c state (parted_bound c i) row r))

pub row_base_low_made : (m : Machine) (c : Numbers) (state : List ℤ) (e : Environment) (i : ℕ) → PartedReady m c state → i < length c.bounds → IsLoaded c state e →
    Makes e (plus_products (Constant (low_part (parted_bound c i))) (λ k. low_part (at (row_of c.state_rows i) k)) (state_top c) (variable Loaded) c.states) (row_base_low c state i) part_top
row_base_low_made m c state e i r l loaded =
    let row = at (row_of c.state_rows i) in
    under_top e _ _ _ (base_low_made m c state e (parted_bound c i) row r loaded) (omega (arith, base_low_below m c state row r))

-- ---- a plan entry
-- what stands for the multiplier of row i
abbrev pub gained : Numbers → List ℤ → ℕ → ℤ
gained c used i = if is_first c i then at used i -ℤ at used (partner c i) else at used i

pub gained_held : (c : Numbers) (used : List ℤ) (e : Environment) (i : ℕ) → i < length c.bounds → Stand c used e → held e (gain_variable c i) ≡ gained c used i
gained_held c used e i l stand =
    let z = at used i -ℤ at used (partner c i) in
    cond_both (is_first c i) Difference Multiplier (λ f. e f i ≡ gained c used i)
    (λ t. stand.pairs i l t ∙ sym (cond-true (is_first c i) z (at used i) t)) (λ f. stand.alone i l ∙ sym (cond-false (is_first c i) z (at used i) f))

pub gained_le : (c : Numbers) (used : List ℤ) (i : ℕ) → AreMultipliers c used → unsigned_abs (gained c used i) ≤ multiplier_top c i
gained_le c used i ranges =
    cond_both (is_first c i) (at used i -ℤ at used (partner c i)) (at used i) (λ z. unsigned_abs z ≤ multiplier_top c i)
    (λ t. difference_le c used i (partner c i) ranges (pair_there c i t)) (λ f. ranges.tops.each i)

-- its parts, in the first rows so far; the second row of a pair needs none
pub record ArePartedGains (c : Numbers) (used : List ℤ) (e : Environment) (n : ℕ) : Type 0 where
  pub high : (i : ℕ) → i < n → is_second c i ≡ false → e MultiplierHigh i ≡ high_part (gained c used i)
  pub low : (i : ℕ) → i < n → is_second c i ≡ false → e MultiplierLow i ≡ low_part (gained c used i)

-- variables that hold what stands for the multipliers
held_gains : Numbers → List ℤ → Environment
held_gains c used Difference i = at used i -ℤ at used (partner c i)
held_gains c used family i = at used i

-- the products with both parts of the multipliers
gains_whole : (m : Machine) (c : Numbers) (state used : List ℤ) (j : ℕ) → PartedReady m c state → j < length c.offsets →
    pos (2 ^ 16) *ℤ total (length c.bounds) (λ i. gain_of c j i *ℤ high_part (gained c used i)) +ℤ total (length c.bounds) (λ i. gain_of c j i *ℤ low_part (gained c used i))
    ≡ list_dot (row_of c.dual_gains j) (raised c used)
unfolding held_gains
gains_whole m c state used j r l =
    let n = length c.bounds in
    let e = held_gains c used in
    let stand : Stand c used e = record { alone = λ i k. refl; pairs = λ i k t. refl } in
    let long = row_long c.dual_gains (plan_length c) c.rows j r.shaped.dual_gains (omega (arith, l, r.shaped.offsets)) ∙ sym r.shaped.bounds in
    parts_total n (λ i. gain_of c j i *ℤ high_part (gained c used i)) (λ i. gain_of c j i *ℤ low_part (gained c used i)) (λ i. gain_of c j i *ℤ held e (gain_variable c i))
    (λ i k. second_parts (gain_of c j i) (gained c used i) ∙ ap (λ (y : ℤ). gain_of c j i *ℤ y) (sym (gained_held c used e i k stand))) ∙
    gains_are c used e j l long stand

gain_small : (m : Machine) (c : Numbers) (state : List ℤ) (j i : ℕ) → PartedReady m c state → j < length c.offsets → i < length c.bounds → unsigned_abs (gain_of c j i) < 2 ^ 37
gain_small m c state j i r l k = omega (arith, r.parts.gains j i l k, less_gain (is_second c i) (at (row_of c.dual_gains j) i *ℤ pos (2 ^ lowering_of c i)))

gain_sizes : (m : Machine) (c : Numbers) (state : List ℤ) (j : ℕ) → PartedReady m c state → j < length c.offsets → amount (length c.bounds) (λ i. unsigned_abs (gain_of c j i)) ≤ 372 * 2 ^ 37
gain_sizes m c state j r l = few_amount (length c.bounds) 372 (λ i. unsigned_abs (gain_of c j i)) r.rows (λ i k. gain_small m c state j i r l k)

-- the second row of a pair has no gain of its own
used_gain : (c : Numbers) (j i : ℕ) → 0 < unsigned_abs (gain_of c j i) * multiplier_top c i → is_second c i ≡ false
used_gain c j i h = elim (cases_Bool (is_second c i)) [
  | inl t ↦ absurd (omega (arith, h, ap (λ (z : ℤ). unsigned_abs z * multiplier_top c i) (cond-true (is_second c i) (pos 0) (at (row_of c.dual_gains j) i *ℤ pos (2 ^ lowering_of c i)) t)))
  | inr f ↦ f
]

gained_none : (c : Numbers) (used : List ℤ) (i : ℕ) → AreMultipliers c used → multiplier_top c i ≡ 0 → gained c used i ≡ pos 0
gained_none c used i ranges h = zero_abs (gained c used i) (omega (arith, h, gained_le c used i ranges))

-- ---- both parts of a plan entry's sum
entry_high_top : Numbers → ℕ → ℕ
entry_high_top c j = base_high_top c (parted_offset c j) (entry_factor c j) + amount (length c.bounds) (λ i. unsigned_abs (gain_of c j i) * high_top (multiplier_top c i))

entry_low_top : Numbers → ℕ → ℕ
entry_low_top c j = base_low_top c (entry_factor c j) + amount (length c.bounds) (λ i. unsigned_abs (gain_of c j i) * low_top)

entry_tops_below : (m : Machine) (c : Numbers) (state : List ℤ) (j : ℕ) → PartedReady m c state → j < length c.offsets → entry_high_top c j + entry_low_top c j < 2 ^ 63
unfolding entry_high_top entry_low_top
entry_tops_below m c state j r l =
    let n = length c.bounds in
    let gain = λ (i : ℕ). unsigned_abs (gain_of c j i) in
    let long = row_long c.dual_gains (plan_length c) c.rows j r.shaped.dual_gains (omega (arith, l, r.shaped.offsets)) ∙ sym r.shaped.bounds in
    omega (
      arith,
      entry_size m c state j r l,
      r.fit.entries j l,
      base_high_below m c state (parted_offset c j) (entry_factor c j) r,
      base_low_below m c state (entry_factor c j) r,
      tops_amount n gain (multiplier_top c),
      lows_amount n gain,
      gains_amount c j r.nonneg long,
      gain_sizes m c state j r l,
    )

entry_high_made : (m : Machine) (c : Numbers) (state used : List ℤ) (e : Environment) (j : ℕ) → PartedReady m c state → j < length c.offsets → AreMultipliers c used →
    e EntryBaseHigh j ≡ entry_base_high c state j → ArePartedGains c used e (length c.bounds) →
    Makes e (plus_gains c j MultiplierHigh (Value (variable EntryBaseHigh j))) (entry_base_high c state j +ℤ total (length c.bounds) (λ i. gain_of c j i *ℤ high_part (gained c used i))) (entry_high_top c j)
unfolding entry_high_top
entry_high_made m c state used e j r l ranges base gains =
    let size : base_size c (parted_offset c j) (entry_factor c j) < 2 ^ 78 = omega (arith, entry_size m c state j r l, r.fit.entries j l) in
    let top = base_high_top c (parted_offset c j) (entry_factor c j) in
    let room : entry_high_top c j < 2 ^ 63 = omega (arith, entry_tops_below m c state j r l) in
    let own = (base_high_made m c state (held_state state) (parted_offset c j) (entry_factor c j) r size (λ k h. held_loaded state k)).within in
    makes_used e (Value (variable EntryBaseHigh j)) (gain_of c j) (multiplier_top c) (λ i. high_top (multiplier_top c i)) (variable MultiplierHigh) (λ i. high_part (gained c used i)) (length c.bounds)
    (entry_base_high c state j) top
    (makes_value e (variable EntryBaseHigh j) (entry_base_high c state j) top base own (omega (arith, room)))
    (record {
      some = λ i k. omega arith;
      small = λ i k. high_le (gained c used i) (multiplier_top c i) (gained_le c used i ranges);
      used = λ i k h. gains.high i k (used_gain c j i h);
      none = λ i k h. ap high_part (gained_none c used i ranges h);
    })
    room

entry_low_made : (m : Machine) (c : Numbers) (state used : List ℤ) (e : Environment) (j : ℕ) → PartedReady m c state → j < length c.offsets → AreMultipliers c used →
    e EntryBase j ≡ entry_base_low c state j → ArePartedGains c used e (length c.bounds) →
    Makes e (plus_gains c j MultiplierLow (Value (variable EntryBase j))) (entry_base_low c state j +ℤ total (length c.bounds) (λ i. gain_of c j i *ℤ low_part (gained c used i))) (entry_low_top c j)
unfolding entry_low_top
entry_low_made m c state used e j r l ranges base gains =
    let top = base_low_top c (entry_factor c j) in
    let room : entry_low_top c j < 2 ^ 63 = omega (arith, entry_tops_below m c state j r l) in
    let own = (base_low_made m c state (held_state state) (parted_offset c j) (entry_factor c j) r (λ k h. held_loaded state k)).within in
    makes_used e (Value (variable EntryBase j)) (gain_of c j) (multiplier_top c) (λ i. low_top) (variable MultiplierLow) (λ i. low_part (gained c used i)) (length c.bounds)
    (entry_base_low c state j) top
    (makes_value e (variable EntryBase j) (entry_base_low c state j) top base own (omega (arith, room)))
    (record {
      some = λ i k. omega arith;
      small = λ i k. low_le (gained c used i);
      used = λ i k h. gains.low i k (used_gain c j i h);
      none = λ i k h. ap low_part (gained_none c used i ranges h);
    })
    room

pub parted_entry_made : (m : Machine) (c : Numbers) (state used : List ℤ) (e : Environment) (j : ℕ) → PartedReady m c state → j < length c.offsets → AreMultipliers c used →
    e EntryBaseHigh j ≡ entry_base_high c state j → e EntryBase j ≡ entry_base_low c state j → ArePartedGains c used e (length c.bounds) →
    Makes e (parted_entry c j) (plan_entry c state (raised c used) j) (entry_top c j)
parted_entry_made m c state used e j r l ranges high low gains =
    let k = c.fraction_bits + c.step_exponent in
    let z = entry_sum c state (raised c used) j in
    let highs = total (length c.bounds) (λ i. gain_of c j i *ℤ high_part (gained c used i)) in
    let lows = total (length c.bounds) (λ i. gain_of c j i *ℤ low_part (gained c used i)) in
    let x = entry_base_high c state j in
    let y = entry_base_low c state j in
    let whole : pos (2 ^ 16) *ℤ (x +ℤ highs) +ℤ (y +ℤ lows) ≡ z = added_parts x y highs lows _ _ (entry_base_whole m c state j r l) (gains_whole m c state used j r l) in
    let shifted = parted_shift_made e _ _ _ _ (entry_high_top c j) (entry_low_top c j) k (entry_high_made m c state used e j r l ranges high gains)
    (entry_low_made m c state used e j r l ranges low gains) (entry_tops_below m c state j r l) (omega (arith, r.parts.bits)) in
    let entry = entry_le c state used j r.within r.nonneg l ranges.tops in
    let lowered = floor_of (pos (2 ^ 16) *ℤ (x +ℤ highs) +ℤ (y +ℤ lows)) (2 ^ k) in
    let is : pos 0 -ℤ lowered ≡ plan_entry c state (raised c used) j = from_zero lowered (floor_of z (2 ^ k)) (ap (λ (w : ℤ). floor_of w (2 ^ k)) whole) in
    makes_same e _ _ _ _ _
    (makes_minus e _ _ (pos 0) lowered 0 _ (entry_top c j) (makes_constant e (pos 0) 0 (omega arith) (omega arith)) shifted (subst (λ (w : ℤ). unsigned_abs w ≤ entry_top c j) (sym is) entry) (r.tops j l))
    is (omega arith)
  where
    from_zero : (x y : ℤ) → x ≡ y → pos 0 -ℤ x ≡ neg_ℤ y
    from_zero x y h = omega (arith, ints, h)

-- ---- the sum of a row
-- what it is made from
pub record IsPartedPlan (c : Numbers) (state plan : List ℤ) (e : Environment) : Type 0 where
  pub high_bases : (i : ℕ) → i < length c.bounds → e RowBaseHigh i ≡ row_base_high c state i
  pub low_bases : (i : ℕ) → i < length c.bounds → e RowBase i ≡ row_base_low c state i
  pub within : AreWithin plan (plan_magnitudes c)
  pub high_entries : (j : ℕ) → j < length c.offsets → e EntryHigh j ≡ high_part (at plan j)
  pub low_entries : (j : ℕ) → j < length c.offsets → e EntryLow j ≡ low_part (at plan j)

-- its products with the plan, by one part of each entry
abbrev pub planned_high : Numbers → List ℤ → ℕ → ℤ
planned_high c plan i = total (length c.offsets) (λ j. at (row_of c.plan_rows i) j *ℤ high_part (at plan j))

abbrev pub planned_low : Numbers → List ℤ → ℕ → ℤ
planned_low c plan i = total (length c.offsets) (λ j. at (row_of c.plan_rows i) j *ℤ low_part (at plan j))

plan_row_long : (m : Machine) (c : Numbers) (state : List ℤ) (i : ℕ) → PartedReady m c state → i < length c.bounds → length (row_of c.plan_rows i) ≡ length c.offsets
plan_row_long m c state i r l = row_long c.plan_rows c.rows (plan_length c) i r.shaped.plan_rows (omega (arith, l, r.shaped.bounds)) ∙ sym r.shaped.offsets

-- both are the products
planned_whole : (m : Machine) (c : Numbers) (state plan : List ℤ) (i : ℕ) → PartedReady m c state → i < length c.bounds → length plan ≡ length c.offsets →
    pos (2 ^ 16) *ℤ planned_high c plan i +ℤ planned_low c plan i ≡ list_dot (row_of c.plan_rows i) plan
planned_whole m c state plan i r l long =
    let row = row_of c.plan_rows i in
    let n = length c.offsets in
    parts_total n (λ j. at row j *ℤ high_part (at plan j)) (λ j. at row j *ℤ low_part (at plan j)) (λ j. at row j *ℤ at plan j) (λ j k. second_parts (at row j) (at plan j)) ∙
    sym (dot_is n row plan (plan_row_long m c state i r l) long)

-- how great they are
abbrev planned_high_top : Numbers → ℕ → ℕ
planned_high_top c i = amount (length c.offsets) (λ j. unsigned_abs (at (row_of c.plan_rows i) j) * high_top (entry_top c j))

abbrev planned_low_top : Numbers → ℕ → ℕ
planned_low_top c i = amount (length c.offsets) (λ j. unsigned_abs (at (row_of c.plan_rows i) j) * low_top)

row_sizes : (m : Machine) (c : Numbers) (state : List ℤ) (i : ℕ) → PartedReady m c state → i < length c.bounds → amount (length c.offsets) (λ j. unsigned_abs (at (row_of c.plan_rows i) j)) ≤ 90 * 2 ^ 37
row_sizes m c state i r l = few_amount (length c.offsets) 90 (λ j. unsigned_abs (at (row_of c.plan_rows i) j)) r.entries (λ j k. r.parts.rows i j l k)

planned_high_below : (m : Machine) (c : Numbers) (state : List ℤ) (i : ℕ) → PartedReady m c state → i < length c.bounds →
    2 ^ 16 * planned_high_top c i ≤ weighted_abs_sum (row_of c.plan_rows i) (plan_magnitudes c) + 2 ^ 16 * (90 * 2 ^ 37)
planned_high_below m c state i r l =
    let n = length c.offsets in
    let row = row_of c.plan_rows i in
    omega (
      arith,
      tops_amount n (λ j. unsigned_abs (at row j)) (entry_top c),
      row_sizes m c state i r l,
      weighted_is n row (plan_magnitudes c) (plan_row_long m c state i r l) (length-plan_reach c),
    )

planned_low_below : (m : Machine) (c : Numbers) (state : List ℤ) (i : ℕ) → PartedReady m c state → i < length c.bounds → planned_low_top c i ≤ low_top * (90 * 2 ^ 37)
planned_low_below m c state i r l = omega (arith, lows_amount (length c.offsets) (λ j. unsigned_abs (at (row_of c.plan_rows i) j)), row_sizes m c state i r l)

-- an entry's part in place of an entry: with which family, number and bound
record IsPart (c : Numbers) (e : Environment) (part : Family) (f : ℕ → ℤ) (bound : ℕ → ℕ) : Type 0 where
  held : (j : ℕ) → j < length c.offsets → e part j ≡ f j
  some : (j : ℕ) → j < length c.offsets → 1 ≤ bound j
  small : (j : ℕ) → j < length c.offsets → unsigned_abs (f j) ≤ bound j
  none : (j : ℕ) → j < length c.offsets → entry_top c j ≡ 0 → f j ≡ pos 0

entry_none : (c : Numbers) (plan : List ℤ) (j : ℕ) → AreWithin plan (plan_magnitudes c) → entry_top c j ≡ 0 → at plan j ≡ pos 0
entry_none c plan j w h = zero_abs (at plan j) (omega (arith, h, w.each j))

high_is_part : (c : Numbers) (state plan : List ℤ) (e : Environment) → IsPartedPlan c state plan e → IsPart c e EntryHigh (λ j. high_part (at plan j)) (λ j. high_top (entry_top c j))
high_is_part c state plan e p = record {
  held = p.high_entries;
  some = λ j l. omega arith;
  small = λ j l. high_le (at plan j) (entry_top c j) (p.within.each j);
  none = λ j l h. ap high_part (entry_none c plan j p.within h);
}

low_is_part : (c : Numbers) (state plan : List ℤ) (e : Environment) → IsPartedPlan c state plan e → IsPart c e EntryLow (λ j. low_part (at plan j)) (λ j. low_top)
low_is_part c state plan e p = record {
  held = p.low_entries;
  some = λ j l. omega arith;
  small = λ j l. low_le (at plan j);
  none = λ j l h. ap low_part (entry_none c plan j p.within h);
}

-- a row's products with a part of each entry, and their size
abbrev products : Numbers → (ℕ → ℤ) → ℕ → ℤ
products c f i = total (length c.offsets) (λ j. at (row_of c.plan_rows i) j *ℤ f j)

abbrev products_top : Numbers → (ℕ → ℕ) → ℕ → ℕ
products_top c bound i = amount (length c.offsets) (λ j. unsigned_abs (at (row_of c.plan_rows i) j) * bound j)

entries_made : (c : Numbers) (e : Environment) (part : Family) (f : ℕ → ℤ) (bound : ℕ → ℕ) (i : ℕ) (a : Expression) (z : ℤ) (most : ℕ) → IsPart c e part f bound → Makes e a z most →
    most + products_top c bound i < 2 ^ 63 → Makes e (plus_entries c i part a) (z +ℤ products c f i) (most + products_top c bound i)
entries_made c e part f bound i a z most p m room =
    makes_used e a (at (row_of c.plan_rows i)) (entry_top c) bound (variable part) f (length c.offsets) z most m
    (record { some = p.some; small = p.small; used = λ j l h. p.held j l; none = p.none }) room

gradient_made : (c : Numbers) (e : Environment) (part : Family) (f : ℕ → ℤ) (bound : ℕ → ℕ) (i : ℕ) → IsPart c e part f bound → products_top c bound i < 2 ^ 63 →
    Makes e (plus_entries c i part (Constant (pos 0))) (products c f i) (products_top c bound i)
gradient_made c e part f bound i p room =
    makes_same e _ _ _ _ _ (entries_made c e part f bound i (Constant (pos 0)) (pos 0) 0 p (makes_constant e (pos 0) 0 (omega arith) (omega arith)) (omega (arith, room))) (omega (arith, ints)) (omega arith)

pub gradient_high_made : (m : Machine) (c : Numbers) (state plan : List ℤ) (e : Environment) (i : ℕ) → PartedReady m c state → i < length c.bounds → IsPartedPlan c state plan e →
    Makes e (plus_entries c i EntryHigh (Constant (pos 0))) (planned_high c plan i) part_top
gradient_high_made m c state plan e i r l p =
    let below = planned_high_below m c state i r l in
    let size = row_base_size m c state i r l in
    under_top e _ _ _ (gradient_made c e EntryHigh (λ j. high_part (at plan j)) (λ j. high_top (entry_top c j)) i (high_is_part c state plan e p) (omega (arith, below, size, r.fit.rows i l)))
    (omega (arith, below, size, r.fit.rows i l))

pub gradient_low_made : (m : Machine) (c : Numbers) (state plan : List ℤ) (e : Environment) (i : ℕ) → PartedReady m c state → i < length c.bounds → IsPartedPlan c state plan e →
    Makes e (plus_entries c i EntryLow (Constant (pos 0))) (planned_low c plan i) part_top
gradient_low_made m c state plan e i r l p =
    let below = planned_low_below m c state i r l in
    under_top e _ _ _ (gradient_made c e EntryLow (λ j. low_part (at plan j)) (λ j. low_top) i (low_is_part c state plan e p) (omega (arith, below))) (omega (arith, below))

-- the products that a pair shares, in the first rows so far
pub record ArePartedShared (c : Numbers) (plan : List ℤ) (e : Environment) (n : ℕ) : Type 0 where
  pub high : (k : ℕ) → k < n → is_first c k ≡ true → e GradientHigh k ≡ planned_high c plan k
  pub low : (k : ℕ) → k < n → is_first c k ≡ true → e Gradient k ≡ planned_low c plan k

-- one part of a row's sum, for the first row of a pair, the second and any other: from its base, and the products that a pair shares
record IsRowPart (c : Numbers) (e : Environment) (base gradient : Family) (f : ℕ → ℤ) (i : ℕ) (z : ℤ) (most : ℕ) : Type 0 where
  made : Makes e (Value (variable base i)) z most
  shared : (k : ℕ) → k < suc i → is_first c k ≡ true → e gradient k ≡ products c f k

products_le : (c : Numbers) (e : Environment) (part : Family) (f : ℕ → ℤ) (bound : ℕ → ℕ) (i : ℕ) → IsPart c e part f bound → unsigned_abs (products c f i) ≤ products_top c bound i
products_le c e part f bound i p =
    let row = row_of c.plan_rows i in
    let n = length c.offsets in
    omega (
      arith,
      dot_bound n (at row) f,
      amount_mono n (λ j. unsigned_abs (at row j) * unsigned_abs (f j)) (λ j. unsigned_abs (at row j) * bound j) (λ j l. mul-le _ _ _ _ (le_refl (unsigned_abs (at row j))) (p.small j l)),
    )

-- the products of a pair's rows are opposite
products_turned : (c : Numbers) (f : ℕ → ℤ) (i k : ℕ) → IsPair c i k → products c f k ≡ neg_ℤ (products c f i)
products_turned c f i k pair =
    let n = length c.offsets in
    let one = row_of c.plan_rows i in
    let other = row_of c.plan_rows k in
    total_same n (λ j. at other j *ℤ f j) (λ j. neg_ℤ (at one j *ℤ f j)) (λ j l. ap (λ (x : ℤ). x *ℤ f j) (pair.row j l) ∙ neg-mul_z (at one j) (f j)) ∙ total_neg n (λ j. at one j *ℤ f j)

second_part_made : (c : Numbers) (e : Environment) (base gradient part : Family) (f : ℕ → ℤ) (bound : ℕ → ℕ) (i k : ℕ) (z : ℤ) (most : ℕ) → IsPart c e part f bound → IsPair c i k →
    Makes e (Value (variable base k)) z most → e gradient i ≡ products c f i → most + products_top c bound k < 2 ^ 63 →
    Makes e (Minus (Value (variable base k)) (Value (variable gradient i))) (z +ℤ products c f k) (most + products_top c bound k)
second_part_made c e base gradient part f bound i k z most p pair made shared room =
    let g = products c f i in
    let top = products_top c bound k in
    let turned = products_turned c f i k pair in
    let size : unsigned_abs g ≤ top = omega (arith, ap unsigned_abs turned, abs-neg g, products_le c e part f bound k p) in
    makes_same e _ _ _ _ _
    (makes_minus e _ _ z g most top (most + top) made (makes_value e (variable gradient i) g top shared size (omega (arith, room))) (omega (arith, abs-sub_le z g, size, made.within)) room)
    (less z g (products c f k) turned) (omega arith)
  where
    less : (x g h : ℤ) → h ≡ neg_ℤ g → x -ℤ g ≡ x +ℤ h
    less x g h e = omega (arith, ints, e)

row_part_made : (c : Numbers) (e : Environment) (base gradient part : Family) (f : ℕ → ℤ) (bound : ℕ → ℕ) (i : ℕ) (z : ℤ) (most : ℕ) → i < length c.bounds → IsPart c e part f bound →
    IsRowPart c e base gradient f i z most → most + products_top c bound i < 2 ^ 63 → Makes e (row_part c base gradient part i) (z +ℤ products c f i) (most + products_top c bound i)
row_part_made c e base gradient part f bound i z most l p r room =
    let top = products_top c bound i in
    let M = λ (a : Expression). Makes e a (z +ℤ products c f i) (most + top) in
    cond_both (is_first c i) _ _ M
    (λ t. makes_plus e _ _ z (products c f i) most top r.made (makes_value e (variable gradient i) (products c f i) top (r.shared i (omega arith) t) (products_le c e part f bound i p) (omega (arith, room))) room)
    (λ u. cond_both (is_second c i) _ _ M
    (λ t. let later = later_there c i l t in second_part_made c e base gradient part f bound (partner c i) i z most p later.pair r.made
    (r.shared (partner c i) (omega (arith, later.pair.order)) later.first) room)
    (λ v. entries_made c e part f bound i (Value (variable base i)) z most p r.made room))

-- ---- both parts of a row's sum
row_tops_below : (m : Machine) (c : Numbers) (state : List ℤ) (i : ℕ) → PartedReady m c state → i < length c.bounds →
    (base_high_top c (parted_bound c i) (at (row_of c.state_rows i)) + planned_high_top c i) + (base_low_top c (at (row_of c.state_rows i)) + planned_low_top c i) < 2 ^ 63
row_tops_below m c state i r l = omega (
  arith,
  row_base_size m c state i r l,
  r.fit.rows i l,
  base_high_below m c state (parted_bound c i) (at (row_of c.state_rows i)) r,
  base_low_below m c state (at (row_of c.state_rows i)) r,
  planned_high_below m c state i r l,
  planned_low_below m c state i r l,
)

row_high_made : (m : Machine) (c : Numbers) (state plan : List ℤ) (e : Environment) (i : ℕ) → PartedReady m c state → i < length c.bounds → IsPartedPlan c state plan e →
    ArePartedShared c plan e (suc i) → Makes e (row_part c RowBaseHigh GradientHigh EntryHigh i) (row_base_high c state i +ℤ planned_high c plan i)
    (base_high_top c (parted_bound c i) (at (row_of c.state_rows i)) + planned_high_top c i)
row_high_made m c state plan e i r l p shared =
    let row = at (row_of c.state_rows i) in
    let size : base_size c (parted_bound c i) row < 2 ^ 78 = omega (arith, row_base_size m c state i r l, r.fit.rows i l) in
    let top = base_high_top c (parted_bound c i) row in
    let room = row_tops_below m c state i r l in
    let own = (base_high_made m c state (held_state state) (parted_bound c i) row r size (λ k h. held_loaded state k)).within in
    row_part_made c e RowBaseHigh GradientHigh EntryHigh (λ j. high_part (at plan j)) (λ j. high_top (entry_top c j)) i (row_base_high c state i) top l (high_is_part c state plan e p)
    (record { made = makes_value e (variable RowBaseHigh i) (row_base_high c state i) top (p.high_bases i l) own (omega (arith, room)); shared = shared.high }) (omega (arith, room))

row_low_made : (m : Machine) (c : Numbers) (state plan : List ℤ) (e : Environment) (i : ℕ) → PartedReady m c state → i < length c.bounds → IsPartedPlan c state plan e →
    ArePartedShared c plan e (suc i) → Makes e (row_part c RowBase Gradient EntryLow i) (row_base_low c state i +ℤ planned_low c plan i)
    (base_low_top c (at (row_of c.state_rows i)) + planned_low_top c i)
row_low_made m c state plan e i r l p shared =
    let row = at (row_of c.state_rows i) in
    let top = base_low_top c row in
    let room = row_tops_below m c state i r l in
    let own = (base_low_made m c state (held_state state) (parted_bound c i) row r (λ k h. held_loaded state k)).within in
    row_part_made c e RowBase Gradient EntryLow (λ j. low_part (at plan j)) (λ j. low_top) i (row_base_low c state i) top l (low_is_part c state plan e p)
    (record { made = makes_value e (variable RowBase i) (row_base_low c state i) top (p.low_bases i l) own (omega (arith, room)); shared = shared.low }) (omega (arith, room))

row_floor_le : (c : Numbers) (state plan : List ℤ) (i : ℕ) → AreWithin state (state_magnitudes c) → AreWithin plan (plan_magnitudes c) →
    unsigned_abs (floor_of (row_sum c state plan i) (2 ^ c.fraction_bits)) ≤ ceil_div (row_absolute_sum c i) (2 ^ c.fraction_bits)
row_floor_le c state plan i within w =
    let d = 2 ^ c.fraction_bits in
    let z = row_sum c state plan i in
    omega (
      arith,
      abs-floor_le_ceil z d (pow_pos c.fraction_bits),
      ceil_div_mono (unsigned_abs z) (row_absolute_sum c i) d (pow_pos c.fraction_bits) (row_sum_le c state plan i within w),
    )

pub parted_row_made : (m : Machine) (c : Numbers) (state plan : List ℤ) (e : Environment) (i : ℕ) → PartedReady m c state → i < length c.bounds → IsPartedPlan c state plan e →
    ArePartedShared c plan e (suc i) →
    Makes e (parted_row c i) (floor_of (row_sum c state plan i) (2 ^ c.fraction_bits)) (ceil_div (row_absolute_sum c i) (2 ^ c.fraction_bits))
parted_row_made m c state plan e i r l p shared =
    let f = c.fraction_bits in
    let x = row_base_high c state i in
    let y = row_base_low c state i in
    let whole : pos (2 ^ 16) *ℤ (x +ℤ planned_high c plan i) +ℤ (y +ℤ planned_low c plan i) ≡ row_sum c state plan i =
    added_parts x y (planned_high c plan i) (planned_low c plan i) _ _ (row_base_whole m c state i r l)
    (planned_whole m c state plan i r l (p.within.long ∙ length-plan_reach c)) ∙ row_order c state plan i in
    let shifted = parted_shift_made e _ _ _ _ _ _ f (row_high_made m c state plan e i r l p shared) (row_low_made m c state plan e i r l p shared) (row_tops_below m c state i r l) r.parts.bits in
    record {
      defined = shifted.defined;
      is = shifted.is ∙ ap (λ (z : ℤ). floor_of z (2 ^ f)) whole;
      within = row_floor_le c state plan i r.within p.within;
    }

-- it fits the type that its variable has
pub parted_row_fits : (m : Machine) (c : Numbers) (state plan : List ℤ) (i : ℕ) → PartedReady m c state → i < length c.bounds → AreWithin plan (plan_magnitudes c) →
    FitsWidth (bits_of (kind_for (next_magnitude c i))) (floor_of (row_sum c state plan i) (2 ^ c.fraction_bits))
parted_row_fits m c state plan i r l within =
    kind_fits (next_magnitude c i) _ (omega (arith, row_floor_le c state plan i r.within within)) (r.next i l)
