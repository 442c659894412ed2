-- A controller of the accelerated machine whose width is at most 64 leaves room in words of 64 bits for what its steps are made of.
use Rattle.std.proofs.Common.{◌≡◌, ℕ, zero, suc, ◌+◌, ◌-◌, ◌*◌, ◌^◌, ◌≤◌, ◌<◌, ℤ, pos, ◌*ℤ◌, List, length, replicate, get_or, unsigned_abs, FitsSigned, arith, le_refl}
use Rattle.std.specs.Prelude.{All}
use Rattle.std.specs.Int.{w64}
use Rattle.std.proofs.lemmas.Int.{fits_signed_from_abs}
use Rattle.std.proofs.lemmas.Nat.{mul-le}
use Rattle.std.proofs.lemmas.List.{get_or_default, get_or-replicate}
use Rattle.std.proofs.Math.Nat.{pow-le-pow_right}
use Rattle.integer_algebra.specs.Division.{floor_of}
use Rattle.integer_algebra.specs.Sums.{at}
use Rattle.mat_products.specs.Narrow.{IsNarrow}
use Rattle.qp_model.specs.machine.Controller.{Numbers}
use Rattle.qp_model.specs.machine.Machine.{lowering_of, row_sum, plan_of}
use Rattle.qp_model.specs.machine.AbsoluteSums.{state_magnitudes, plan_magnitudes}
use Rattle.qp_model.specs.machine.Within.{AreWithin}
use Rattle.qp_model.proofs.MagnitudeLaws.{zeros_at}
use Rattle.overflow_check.proofs.Machines.{as_last}
use Rattle.overflow_check.proofs.Sizes.{length-plan_reach}
use Rattle.overflow_check.specs.declared.machine.Machine.TheVariants.{Accelerated}
use Rattle.overflow_check.specs.FastMachine.{FastIterate, step_weight, all_weights, fast_top, mean_at, means_of, fast_after}
use Rattle.overflow_check.specs.FastController.{IsFastController}
use Rattle.fixed_kernel.specs.WordForm.{IsWordSized}
use Rattle.fixed_kernel.specs.WordMachine.{IsWordSumSetting}
use Rattle.fixed_kernel.specs.declared.word_machine.WordForm.{WordForm}
use Rattle.fast_machine.specs.FastReady.{LiesUpTo, AreFastMultipliers, AreFastSums}
use Rattle.fast_machine.specs.FastWords.{IsFastWordSetting}
use Rattle.fast_machine.proofs.FastRuns.{top_le, twice_abs, means_within, means_long, made_plan_within, run_kept}
use Rattle.fast_machine.proofs.FastSums.{FastSumsFit, fast_sums_fit, one_weight, weights_mono, tops_within}
use Rattle.fast_machine.proofs.FastRooms.{moving_within, mean_within, raised_le, sum_within}

-- no absolute sum passes a word's greatest number
pub word_fit : (c : Numbers) → IsFastController c → IsWordSized c → FastSumsFit c (2 ^ 63 - 1)
word_fit c s words =
    let bits : c.width - 1 ≤ 63 = omega (arith, words.width) in
    let grown : 2 ^ (c.width - 1) ≤ 2 ^ 63 = pow-le-pow_right (omega arith) bits in
    fast_sums_fit c (2 ^ 63 - 1) (omega (arith, s.fit, grown))

-- what the plan and the rows' sums stand on
pub sum_setting : (c : Numbers) (w : WordForm) (state : List ℤ) → IsFastWordSetting c w state → IsWordSumSetting c w state
sum_setting c w state s = record { sound = as_last Accelerated c s.sound; sized = s.sized; form = s.form; state = s.state }

-- ---- what one step is made of
pub moving_word_room : (c : Numbers) (state plan : List ℤ) (old : ℤ) (k i : ℕ) → IsFastController c → IsWordSized c → k < c.steps → i < length c.bounds → LiesUpTo (unsigned_abs (fast_top c i)) old →
    AreWithin state (state_magnitudes c) → AreWithin plan (plan_magnitudes c) → unsigned_abs old + step_weight k * unsigned_abs (floor_of (row_sum c state plan i) (2 ^ c.fraction_bits)) < 2 ^ 63
moving_word_room c state plan old k i s words lt h l w v = omega (arith, moving_within c (2 ^ 63 - 1) state plan old k i (word_fit c s words) lt h l w v)

pub mean_word_room : (c : Numbers) (multipliers reached : List ℤ) (k i : ℕ) → IsFastController c → IsWordSized c → k < c.steps → i < length c.bounds → AreFastMultipliers c k multipliers reached →
    unsigned_abs (at reached i) + step_weight k * unsigned_abs (at multipliers i) < 2 ^ 63
mean_word_room c multipliers reached k i s words lt h r = omega (arith, mean_within c (2 ^ 63 - 1) multipliers reached k i (word_fit c s words) lt h r)

pub sum_word_room : (c : Numbers) (sums plan : List ℤ) (k j : ℕ) → IsFastController c → IsWordSized c → k < c.steps → j < length c.offsets → AreFastSums c k sums → AreWithin plan (plan_magnitudes c) →
    unsigned_abs (at sums j) + step_weight k * unsigned_abs (at plan j) < 2 ^ 63
sum_word_room c sums plan k j s words lt h r w = omega (arith, sum_within c (2 ^ 63 - 1) sums plan k j (word_fit c s words) lt h r w)

-- twice the clamp
pub twice_clamp_below : (c : Numbers) (i : ℕ) → IsFastController c → IsWordSized c → i < length c.bounds → 2 * unsigned_abs c.clamp < 2 ^ 63
twice_clamp_below c i s words h = omega (arith, (word_fit c s words).moved i h)

pub twice_clamp_fits : (c : Numbers) (i : ℕ) → IsFastController c → IsWordSized c → i < length c.bounds → FitsSigned w64 (pos 2 *ℤ c.clamp)
twice_clamp_fits c i s words h = fits_signed_from_abs w64 _ (omega (arith, twice_abs c.clamp, twice_clamp_below c i s words h))

-- a raised mean
pub raised_narrow : (c : Numbers) (multipliers reached : List ℤ) (k i : ℕ) → IsFastController c → IsWordSized c → i < length c.bounds → AreFastMultipliers c k multipliers reached →
    IsNarrow (mean_at k multipliers reached i *ℤ pos (2 ^ lowering_of c i))
raised_narrow c multipliers reached k i s words h r = omega (arith, raised_le c multipliers reached k i s h r, twice_clamp_below c i s words h)

-- ---- what a run has made fits the word
narrow_each : (xs : List ℤ) (n : ℕ) → length xs ≡ n → ((k : ℕ) → k < n → unsigned_abs (at xs k) < 2 ^ 63) → All IsNarrow xs
narrow_each xs n e h = λ i d l. rw (get_or_default xs i d (pos 0) l) (h i (omega (arith, l, e)))

zeros_narrow : (n : ℕ) → All IsNarrow (replicate n (pos 0))
zeros_narrow n = λ i d l. rw (get_or_default (replicate n (pos 0)) i d (pos 0) l, zeros_at n i) (omega arith)

-- each list of it
pub record AreNarrow (made : FastIterate) : Type 0 where
  pub means : All IsNarrow made.means
  pub plan : All IsNarrow made.plan
  pub multipliers : All IsNarrow made.multipliers
  pub reached : All IsNarrow made.reached
  pub sums : All IsNarrow made.sums

means_narrow : (c : Numbers) (state : List ℤ) (k : ℕ) → IsFastController c → IsWordSized c → AreWithin state (state_magnitudes c) → All IsNarrow (fast_after c state k).means
unfolding fast_after
means_narrow c state zero s words w = zeros_narrow (length c.bounds)
means_narrow c state (suc k) s words w =
    let made = fast_after c state k in
    let within = means_within c k made.multipliers made.reached s.form.sized.rest.clamp_low (run_kept c state k s.form.sized.rest.clamp_low w).rows in
    narrow_each (means_of c k made.multipliers made.reached) (length c.bounds) (means_long c k made.multipliers made.reached) (λ i l.
    omega (arith, within.each i, get_or-replicate (length c.bounds) i (unsigned_abs c.clamp) 0 l, twice_clamp_below c i s words l))

plan_narrow : (c : Numbers) (state : List ℤ) (k : ℕ) → IsFastController c → IsWordSized c → AreWithin state (state_magnitudes c) → All IsNarrow (fast_after c state k).plan
unfolding fast_after
plan_narrow c state zero s words w = zeros_narrow (length c.offsets)
plan_narrow c state (suc k) s words w =
    let made = fast_after c state k in
    let within = made_plan_within c state k made s.form.sized.rest.clamp_low w (run_kept c state k s.form.sized.rest.clamp_low w) in
    let plan = plan_of c state (means_of c k made.multipliers made.reached) in
    narrow_each plan (length c.offsets) (omega (arith, within.long, length-plan_reach c)) (λ j l.
    let u = get_or (plan_magnitudes c) j 0 in
    let one = one_weight 0 c.steps (omega (arith, s.form.sized.steps.0)) in
    omega (arith, within.each j, mul-le 1 u (all_weights c.steps) u one (le_refl u), (word_fit c s words).sums j l))

pub after_narrow : (c : Numbers) (state : List ℤ) (k : ℕ) → IsFastController c → IsWordSized c → AreWithin state (state_magnitudes c) → k ≤ c.steps → AreNarrow (fast_after c state k)
after_narrow c state k s words w le =
    let made = fast_after c state k in
    let ready = run_kept c state k s.form.sized.rest.clamp_low w in
    let more : all_weights k ≤ all_weights c.steps = weights_mono k c.steps le in
    record {
      means = means_narrow c state k s words w;
      plan = plan_narrow c state k s words w;
      multipliers = narrow_each made.multipliers (length c.bounds) ready.rows.multipliers_long (λ i l. omega (arith, (ready.rows.own i l).high, top_le c i, twice_clamp_below c i s words l));
      reached = narrow_each made.reached (length c.bounds) ready.rows.reached_long (λ i l. omega (arith, (ready.rows.summed i l).high, tops_within c (all_weights k) i more, (word_fit c s words).reached));
      sums = narrow_each made.sums (length c.offsets) ready.entries.sums_long (λ j l.
          let u = get_or (plan_magnitudes c) j 0 in
          omega (arith, ready.entries.each j l, mul-le (all_weights k) u (all_weights c.steps) u more (le_refl u), (word_fit c s words).sums j l));
    }
