-- A controller whose width is at most 64 leaves room in words of 64 bits for the sums of its rows.
use Rattle.std.proofs.Common.{◌≡◌, ℕ, zero, suc, replicate, le_refl, subst, get_or, FitsSigned, ◌+◌, ◌-◌, ◌*◌, ◌^◌, ◌≤◌, ◌<◌, ℤ, pos, ◌+ℤ◌, ◌-ℤ◌, ◌*ℤ◌, neg_ℤ, List, length, unsigned_abs, arith}
use Rattle.std.specs.Prelude.{All}
use Rattle.std.proofs.lemmas.List.{get_or_default}
use Rattle.mat_products.specs.Narrow.{IsNarrow}
use Rattle.std.specs.Int.{w64, w128}
use Rattle.std.proofs.lemmas.Int.{ints, fits_signed_from_abs}
use Rattle.std.proofs.lemmas.Nat.{pow_pos, mul-le}
use Rattle.std.proofs.Math.Nat.{pow-le-pow_right}
use Rattle.integer_algebra.specs.Sums.{at}
use Rattle.integer_algebra.specs.Division.{ceil_div}
use Rattle.mat_int.specs.Row.{list_dot, abs_dot}
use Rattle.mat_int.specs.Matrix.{row_of}
use Rattle.mat_int.proofs.Dots.{abs-add_le, abs-dot_le}
use Rattle.qp_model.specs.machine.Controller.{Numbers}
use Rattle.qp_model.specs.machine.Machine.{lowering_of, row_sum, raised, plan_of, next_multiplier, after}
use Rattle.qp_model.specs.machine.AbsoluteSums.{weighted_abs_sum, state_magnitudes, clamp_magnitudes, plan_magnitudes, entry_absolute_sum, row_absolute_sum, IsController}
use Rattle.qp_model.specs.machine.Within.{AreWithin}
use Rattle.qp_model.proofs.AbsoluteLaws.{le_times_pow, abs-neg, abs-shifted, abs-own_le, abs-scaled_le, ceil_div_mono}
use Rattle.qp_model.proofs.MagnitudeLaws.{abs_dot-magnitudes, entry_parts_le, after_multipliers, zeros_at, plan_within}
use Rattle.overflow_check.proofs.SumLaws.{SumsFit, sums_fit}
use Rattle.overflow_check.proofs.Runs.{after_plan_length, after_sums_length, after_sums_le}
use Rattle.std.proofs.lemmas.List.FromFn.{length-map-range_with_len, get_or-map-range_with_len}
use Rattle.fixed_kernel.specs.Raised.{with_raised}
use Rattle.fixed_kernel.proofs.Raised.{raised_long, within_clamp, moved_raised_within}
use Rattle.fixed_kernel.proofs.WordSums.{whole_le}
use Rattle.overflow_check.proofs.Machines.{as_last}
use Rattle.overflow_check.specs.declared.machine.Machine.TheVariants.{Plain}
use Rattle.fixed_kernel.specs.WordForm.{entry_base, row_base, entry_bases, row_bases, IsWordSized, IsReadyInWords}
use Rattle.fixed_kernel.specs.WordMachine.{IsWordSetting, IsWordSumSetting}
use Rattle.fixed_kernel.specs.declared.word_machine.WordForm.{WordForm}

-- no absolute sum passes a word's greatest number
pub word_fit : (c : Numbers) → IsController c → c.width ≤ 64 → SumsFit c (2 ^ 63 - 1)
word_fit c s narrow =
    let bits : c.width - 1 ≤ 63 = omega (arith, narrow) in
    let grown : 2 ^ (c.width - 1) ≤ 2 ^ 63 = pow-le-pow_right (omega arith) bits in
    sums_fit c (2 ^ 63 - 1) (omega (arith, s.fit, grown))

-- a step's setting is one of its sums
pub sum_setting : (c : Numbers) (w : WordForm) (xs : List ℤ) → IsWordSetting c w xs → IsWordSumSetting c w xs
sum_setting c w xs s = record { sound = as_last Plain c s.sound; sized = s.sized; form = s.form; state = s.state }

-- ---- a plan entry
pub entry_word_room : (c : Numbers) (state multipliers : List ℤ) (j : ℕ) → IsController c → c.width ≤ 64 → j < length c.offsets → AreWithin state (state_magnitudes c) → AreWithin multipliers (clamp_magnitudes c) →
    unsigned_abs (entry_base c state j) + abs_dot (row_of c.dual_gains j) multipliers < 2 ^ 63
entry_word_room c state multipliers j s narrow h w v =
    omega (arith, abs-scaled_le (list_dot (row_of c.state_gains j) state) (at c.offsets j) c.fraction_bits c.step_exponent, entry_parts_le c state multipliers j w v, (word_fit c s narrow).entries j h)

-- ---- a row
own_base_le : (own bound : ℤ) (f : ℕ) → unsigned_abs (own -ℤ bound *ℤ pos (2 ^ f)) ≤ unsigned_abs own + unsigned_abs bound * 2 ^ f
own_base_le own bound f =
    let b = bound *ℤ pos (2 ^ f) in
    let same : own -ℤ b ≡ own +ℤ neg_ℤ b = omega (arith, ints) in
    rw same (omega (arith, abs-add_le own (neg_ℤ b), abs-neg b, abs-shifted bound f))

row_base_le : (c : Numbers) (state plan : List ℤ) (i : ℕ) → AreWithin state (state_magnitudes c) → AreWithin plan (plan_magnitudes c) →
    unsigned_abs (row_base c state i) + abs_dot (row_of c.plan_rows i) plan ≤ row_absolute_sum c i
row_base_le c state plan i w v =
    omega (
      arith,
      own_base_le (list_dot (row_of c.state_rows i) state) (at c.bounds i) c.fraction_bits,
      abs-dot_le (row_of c.state_rows i) state,
      abs_dot-magnitudes (row_of c.state_rows i) state (state_magnitudes c) w,
      abs_dot-magnitudes (row_of c.plan_rows i) plan (plan_magnitudes c) v,
    )

pub row_word_room : (c : Numbers) (state plan : List ℤ) (i : ℕ) → IsController c → c.width ≤ 64 → i < length c.bounds → AreWithin state (state_magnitudes c) → AreWithin plan (plan_magnitudes c) →
    unsigned_abs (row_base c state i) + abs_dot (row_of c.plan_rows i) plan < 2 ^ 63
row_word_room c state plan i s narrow h w v = omega (arith, row_base_le c state plan i w v, (word_fit c s narrow).rows i h)

pub next_word_room : (c : Numbers) (state plan : List ℤ) (old : ℤ) (i : ℕ) → IsController c → c.width ≤ 64 → i < length c.bounds →
    unsigned_abs old ≤ unsigned_abs c.clamp → AreWithin state (state_magnitudes c) → AreWithin plan (plan_magnitudes c) →
    unsigned_abs old + ceil_div (unsigned_abs (row_base c state i) + abs_dot (row_of c.plan_rows i) plan) (2 ^ c.fraction_bits) < 2 ^ 63
next_word_room c state plan old i s narrow h le w v =
    let mono = ceil_div_mono (unsigned_abs (row_base c state i) + abs_dot (row_of c.plan_rows i) plan) (row_absolute_sum c i) (2 ^ c.fraction_bits) (pow_pos c.fraction_bits) (row_base_le c state plan i w v) in
    omega (arith, mono, le, (word_fit c s narrow).next i h)

-- the sum that the floor is taken of, and the multiplier that it is added to
pub entry_sum_narrow : (c : Numbers) (state multipliers : List ℤ) (j : ℕ) → IsController c → c.width ≤ 64 → j < length c.offsets → AreWithin state (state_magnitudes c) → AreWithin multipliers (clamp_magnitudes c) →
    IsNarrow (entry_base c state j +ℤ list_dot (row_of c.dual_gains j) multipliers)
entry_sum_narrow c state multipliers j s narrow h w v =
    omega (arith, whole_le (entry_base c state j) (row_of c.dual_gains j) multipliers, entry_word_room c state multipliers j s narrow h w v)

-- the row's sum is what the state and the bound add and the plan's products
pub row_sum_is : (c : Numbers) (state plan : List ℤ) (i : ℕ) → row_base c state i +ℤ list_dot (row_of c.plan_rows i) plan ≡ row_sum c state plan i
row_sum_is c state plan i = omega (arith, ints)

next_sum_room : (c : Numbers) (state plan : List ℤ) (old : ℤ) (i : ℕ) → IsController c → c.width ≤ 64 → i < length c.bounds →
    unsigned_abs old ≤ unsigned_abs c.clamp → AreWithin state (state_magnitudes c) → AreWithin plan (plan_magnitudes c) →
    unsigned_abs old + ceil_div (unsigned_abs (row_sum c state plan i)) (2 ^ c.fraction_bits) < 2 ^ 63
next_sum_room c state plan old i s narrow h le w v =
    let parts = unsigned_abs (row_base c state i) + abs_dot (row_of c.plan_rows i) plan in
    let below : unsigned_abs (row_sum c state plan i) ≤ parts = subst (λ (z : ℤ). unsigned_abs z ≤ parts) (row_sum_is c state plan i) (whole_le (row_base c state i) (row_of c.plan_rows i) plan) in
    let mono = ceil_div_mono (unsigned_abs (row_sum c state plan i)) parts (2 ^ c.fraction_bits) (pow_pos c.fraction_bits) below in
    omega (arith, mono, next_word_room c state plan old i s narrow h le w v)

-- under other names of the sum and of the multiplier
pub next_room_as : (c : Numbers) (state plan : List ℤ) (sum old was : ℤ) (i : ℕ) → IsController c → c.width ≤ 64 → i < length c.bounds →
    unsigned_abs was ≤ unsigned_abs c.clamp → AreWithin state (state_magnitudes c) → AreWithin plan (plan_magnitudes c) → sum ≡ row_sum c state plan i → old ≡ was →
    unsigned_abs old + ceil_div (unsigned_abs sum) (2 ^ c.fraction_bits) < 2 ^ 63
next_room_as c state plan sum old was i s narrow h le w v e o = rw (e, o) (next_sum_room c state plan was i s narrow h le w v)

-- ---- the bases of all
pub entry_bases_long : (c : Numbers) (state : List ℤ) → length (entry_bases c state) ≡ length c.offsets
entry_bases_long c state = length-map-range_with_len (entry_base c state) 0 (length c.offsets)

pub entry_bases_at : (c : Numbers) (state : List ℤ) (j : ℕ) → j < length c.offsets → at (entry_bases c state) j ≡ entry_base c state j
entry_bases_at c state j lt = get_or-map-range_with_len (entry_base c state) 0 (length c.offsets) j j (pos 0) lt (omega arith)

pub row_bases_long : (c : Numbers) (state : List ℤ) → length (row_bases c state) ≡ length c.bounds
row_bases_long c state = length-map-range_with_len (row_base c state) 0 (length c.bounds)

pub row_bases_at : (c : Numbers) (state : List ℤ) (i : ℕ) → i < length c.bounds → at (row_bases c state) i ≡ row_base c state i
row_bases_at c state i lt = get_or-map-range_with_len (row_base c state) 0 (length c.bounds) i i (pos 0) lt (omega arith)

-- ---- how a base is made
own_scaled_le : (c : Numbers) (state : List ℤ) (j : ℕ) → AreWithin state (state_magnitudes c) →
    (abs_dot (row_of c.state_gains j) state + unsigned_abs (at c.offsets j) * 2 ^ c.fraction_bits) * 2 ^ c.step_exponent ≤ entry_absolute_sum c j
own_scaled_le c state j w =
    let t = unsigned_abs (at c.offsets j) * 2 ^ c.fraction_bits in
    let own = abs_dot-magnitudes (row_of c.state_gains j) state (state_magnitudes c) w in
    omega (arith, mul-le (abs_dot (row_of c.state_gains j) state + t) (2 ^ c.step_exponent) (weighted_abs_sum (row_of c.state_gains j) (state_magnitudes c) + t) (2 ^ c.step_exponent) (omega (arith, own)) (le_refl (2 ^ c.step_exponent)))

-- what it meets fits
pub record BaseFits (own t : ℤ) (f s : ℕ) : Type 0 where
  pub offset : FitsSigned w128 (t *ℤ pos (2 ^ f))
  pub sum : FitsSigned w128 (own +ℤ t *ℤ pos (2 ^ f))
  pub scaled : FitsSigned w128 ((own +ℤ t *ℤ pos (2 ^ f)) *ℤ pos (2 ^ s))
  pub word : FitsSigned w64 ((own +ℤ t *ℤ pos (2 ^ f)) *ℤ pos (2 ^ s))

base_fits : (own offset : ℤ) (f s : ℕ) → (unsigned_abs own + unsigned_abs offset * 2 ^ f) * 2 ^ s < 2 ^ 63 → BaseFits own offset f s
base_fits own offset f s room =
    let grown = le_times_pow (unsigned_abs own + unsigned_abs offset * 2 ^ f) s in
    record {
      offset = fits_signed_from_abs w128 _ (omega (arith, abs-shifted offset f, grown, room));
      sum = fits_signed_from_abs w128 _ (omega (arith, abs-own_le own offset f, grown, room));
      scaled = fits_signed_from_abs w128 _ (omega (arith, abs-scaled_le own offset f s, room));
      word = fits_signed_from_abs w64 _ (omega (arith, abs-scaled_le own offset f s, room));
    }

pub own_word_room : (c : Numbers) (state : List ℤ) (j : ℕ) → IsController c → c.width ≤ 64 → j < length c.offsets → AreWithin state (state_magnitudes c) → abs_dot (row_of c.state_gains j) state < 2 ^ 127
own_word_room c state j s narrow h w =
    omega (arith, le_times_pow (abs_dot (row_of c.state_gains j) state + unsigned_abs (at c.offsets j) * 2 ^ c.fraction_bits) c.step_exponent, own_scaled_le c state j w, (word_fit c s narrow).entries j h)

pub entry_base_fits : (c : Numbers) (state : List ℤ) (j : ℕ) → IsController c → c.width ≤ 64 → j < length c.offsets → AreWithin state (state_magnitudes c) →
    BaseFits (list_dot (row_of c.state_gains j) state) (at c.offsets j) c.fraction_bits c.step_exponent
entry_base_fits c state j s narrow h w =
    let own = list_dot (row_of c.state_gains j) state in
    let t = unsigned_abs (at c.offsets j) * 2 ^ c.fraction_bits in
    let less = mul-le (unsigned_abs own + t) (2 ^ c.step_exponent) (abs_dot (row_of c.state_gains j) state + t) (2 ^ c.step_exponent) (omega (arith, abs-dot_le (row_of c.state_gains j) state)) (le_refl (2 ^ c.step_exponent)) in
    base_fits own (at c.offsets j) c.fraction_bits c.step_exponent (omega (arith, less, own_scaled_le c state j w, (word_fit c s narrow).entries j h))

-- a sum and a difference under other names
pub plus_as : (x y a b : ℤ) → x ≡ a → y ≡ b → x +ℤ y ≡ a +ℤ b
plus_as x y a b d e = rw (d, e)

pub less_as : (x y a b : ℤ) → x ≡ a → y ≡ b → x -ℤ y ≡ a -ℤ b
less_as x y a b d e = rw (d, e)

-- the same of a row
pub record RowBaseFits (own b : ℤ) (f : ℕ) : Type 0 where
  pub bound : FitsSigned w128 (b *ℤ pos (2 ^ f))
  pub base : FitsSigned w128 (own -ℤ b *ℤ pos (2 ^ f))
  pub word : FitsSigned w64 (own -ℤ b *ℤ pos (2 ^ f))

own_row_le : (c : Numbers) (state : List ℤ) (i : ℕ) → AreWithin state (state_magnitudes c) → abs_dot (row_of c.state_rows i) state + unsigned_abs (at c.bounds i) * 2 ^ c.fraction_bits ≤ row_absolute_sum c i
own_row_le c state i w = omega (arith, abs_dot-magnitudes (row_of c.state_rows i) state (state_magnitudes c) w)

pub own_row_room : (c : Numbers) (state : List ℤ) (i : ℕ) → IsController c → c.width ≤ 64 → i < length c.bounds → AreWithin state (state_magnitudes c) → abs_dot (row_of c.state_rows i) state < 2 ^ 127
own_row_room c state i s narrow h w = omega (arith, own_row_le c state i w, (word_fit c s narrow).rows i h)

pub row_base_fits : (c : Numbers) (state : List ℤ) (i : ℕ) → IsController c → c.width ≤ 64 → i < length c.bounds → AreWithin state (state_magnitudes c) →
    RowBaseFits (list_dot (row_of c.state_rows i) state) (at c.bounds i) c.fraction_bits
row_base_fits c state i s narrow h w =
    let own = list_dot (row_of c.state_rows i) state in
    let below : unsigned_abs own + unsigned_abs (at c.bounds i) * 2 ^ c.fraction_bits < 2 ^ 63 = omega (arith, abs-dot_le (row_of c.state_rows i) state, own_row_le c state i w, (word_fit c s narrow).rows i h) in
    record {
      bound = fits_signed_from_abs w128 _ (omega (arith, abs-shifted (at c.bounds i) c.fraction_bits, below));
      base = fits_signed_from_abs w128 _ (omega (arith, own_base_le own (at c.bounds i) c.fraction_bits, below));
      word = fits_signed_from_abs w64 _ (omega (arith, own_base_le own (at c.bounds i) c.fraction_bits, below));
    }

-- ---- a run
-- one more step may be made
pub ready_in_words : (c : Numbers) (state entry_starts row_starts : List ℤ) (k : ℕ) → IsController c → IsWordSized c →
    AreWithin state (state_magnitudes c) → entry_starts ≡ entry_bases c state → row_starts ≡ row_bases c state → k < c.steps →
    IsReadyInWords c state entry_starts row_starts (with_raised c (after c state k))
ready_in_words c state entry_starts row_starts k s words w e r lt = record {
  entries = e;
  rows = r;
  multipliers_within = after_multipliers c state k s.form.sized.clamp_low;
  plan_long = after_plan_length c state k;
  sums_long = after_sums_length c state k;
  room = λ j h.
      let u = get_or (plan_magnitudes c) j 0 in
      let sum = after_sums_le c state k j s.form.sized.clamp_low w h in
      let all : (k + 1) * u ≤ c.steps * u = mul-le (k + 1) u c.steps u (omega (arith, lt)) (omega arith) in
      omega (arith, sum, all, (word_fit c s words.width).sums j h);
}

-- ---- what a run has made fits the word
-- a list whose numbers are below the word's bound
narrow_each : (xs : List ℤ) → ((k : ℕ) → k < length xs → unsigned_abs (at xs k) < 2 ^ 63) → All IsNarrow xs
narrow_each xs h = λ i d l. rw (get_or_default xs i d (pos 0) l) (h i l)

-- a row's raised multiplier, and so a row's greatest
pub clamp_narrow : (c : Numbers) (i : ℕ) → IsController c → IsWordSized c → i < length c.bounds → IsNarrow c.clamp
clamp_narrow c i s words lt = omega (arith, (word_fit c s words.width).next i lt)

pub moved_raised_word : (c : Numbers) (state plan : List ℤ) (old : ℤ) (i : ℕ) → IsController c → IsWordSized c → i < length c.bounds → IsNarrow (next_multiplier c state plan old i *ℤ pos (2 ^ lowering_of c i))
moved_raised_word c state plan old i s words lt = omega (arith, moved_raised_within c state plan old i s lt, clamp_narrow c i s words lt)

pub after_multipliers_narrow : (c : Numbers) (state : List ℤ) (k : ℕ) → IsController c → IsWordSized c → All IsNarrow (raised c (after c state k).multipliers)
after_multipliers_narrow c state k s words =
    let ls = raised c (after c state k).multipliers in
    narrow_each ls (λ i l.
    let row : i < length c.bounds = omega (arith, l, raised_long c (after c state k).multipliers) in
    omega (arith, within_clamp c ls i row (after_multipliers c state k s.form.sized.clamp_low), clamp_narrow c i s words row))

pub after_sums_narrow : (c : Numbers) (state : List ℤ) (k : ℕ) → IsController c → IsWordSized c → AreWithin state (state_magnitudes c) → k ≤ c.steps → All IsNarrow (after c state k).sums
after_sums_narrow c state k s words w le =
    narrow_each (after c state k).sums (λ j l.
    let inside : j < length c.offsets = omega (arith, l, after_sums_length c state k) in
    let u = get_or (plan_magnitudes c) j 0 in
    omega (arith, after_sums_le c state k j s.form.sized.clamp_low w inside, mul-le k u c.steps u le (le_refl u), (word_fit c s words.width).sums j inside))

pub after_plan_narrow : (c : Numbers) (state : List ℤ) (k : ℕ) → IsController c → IsWordSized c → AreWithin state (state_magnitudes c) → All IsNarrow (after c state k).plan
unfolding after
after_plan_narrow c state zero s words w = narrow_each (replicate (length c.offsets) (pos 0)) (λ j l. rw (zeros_at (length c.offsets) j) (omega arith))
after_plan_narrow c state (suc k) s words w =
    let plan = plan_of c state (raised c (after c state k).multipliers) in
    let within = plan_within c state (raised c (after c state k).multipliers) w (after_multipliers c state k s.form.sized.clamp_low) in
    narrow_each plan (λ j l.
    let inside : j < length c.offsets = omega (arith, l, after_plan_length c state (suc k)) in
    let u = get_or (plan_magnitudes c) j 0 in
    omega (arith, within.each j, mul-le 1 u c.steps u (omega (arith, s.form.sized.steps.0)) (le_refl u), (word_fit c s words.width).sums j inside))
