-- Controllers of either machine keep the first inputs of their averaged plans within the steps' weight times the magnitudes.
use Rattle.std.proofs.Common.{◌≡◌, ◌∙◌, ℕ, zero, suc, ◌+◌, ◌*◌, ◌^◌, ◌≤◌, ℤ, pos, List, length, get_or, arith, le_refl, le_trans}
use Rattle.std.proofs.lemmas.Nat.{mul-le}
use Rattle.std.proofs.lemmas.List.{length-replicate}
use Rattle.std.proofs.lemmas.List.FromFn.{length-map-range_with_len}
use Rattle.qp_model.specs.machine.Controller.{Numbers, IsSized}
use Rattle.qp_model.specs.machine.Machine.{IsAdmissible, loaded}
use Rattle.qp_model.specs.machine.AbsoluteSums.{IsController, plan_magnitudes, greatest_of}
use Rattle.qp_model.proofs.MagnitudeLaws.{state_within, get_or-le-greatest}
use Rattle.overflow_check.specs.declared.machine.Machine.TheVariants.{Plain, Accelerated}
use Rattle.overflow_check.specs.FastMachine.{all_weights, fast_after}
use Rattle.overflow_check.specs.FastController.{IsFastController, with_last_version}
use Rattle.overflow_check.proofs.Machines.{shared, some_bound, by_weights}
use Rattle.overflow_check.proofs.Runs.{after_sums_length, after_sums_le}
use Rattle.fast_machine.proofs.WeightSums.{twice_weights}
use Rattle.fast_machine.proofs.FastRuns.{added_long, ready_law}
use Rattle.fixed_kernel.proofs.Rooms.{fit}
use Rattle.closed_loop.specs.Looping.{looping_of_plain, looping_of_fast, IsLooping}

-- the first inputs are entries of the plan
input_in : (c : Numbers) → IsSized (with_last_version c) → c.inputs ≤ length c.offsets
input_in c s = omega (arith, s.shaped.offsets, mul-le c.inputs 1 c.inputs c.stages (le_refl c.inputs) s.stages.0)

-- ---- the plain machine
pub plain_sound : (c : Numbers) → IsController c → IsLooping (looping_of_plain c)
plain_sound c s =
    let sized = shared Plain c s.form.sized in
    let within = λ (xi : List ℤ) (g : IsAdmissible c xi). state_within c xi sized.shaped.low sized.shaped.high g in
    record {
      sized = sized;
      weight = (s.form.sized.steps.0, omega (arith, s.form.sized.steps));
      room = λ j h. (fit c s).sums j (omega (arith, input_in c sized, h));
      long = λ xi g. omega (arith, after_sums_length c (loaded c xi) c.steps, input_in c sized);
      within = λ xi g j h. after_sums_le c (loaded c xi) c.steps j sized.clamp_low (within xi g) (omega (arith, input_in c sized, h));
    }

-- ---- the accelerated one
-- as many sums as plan entries
pub fast_sums_length : (c : Numbers) (state : List ℤ) (k : ℕ) → length (fast_after c state k).sums ≡ length c.offsets
unfolding fast_after
fast_sums_length c state zero = length-replicate (length c.offsets) (pos 0)
fast_sums_length c state (suc k) = added_long _ _ _ ∙ length-map-range_with_len _ 0 (length c.offsets)

-- K (K + 3) / 2 is at least 1 and below 2^31
few : (n : ℕ) → 1 ≤ n → n ≤ 65534 → (1 ≤ all_weights n) × (all_weights n ≤ 2 ^ 31)
few n h l = (
  omega (arith, twice_weights n, mul-le 1 4 n (n + 3) h (omega (arith, h))),
  omega (arith, twice_weights n, mul-le n (n + 3) 65534 65537 l (omega (arith, l))),
)

-- what the steps weigh together, times the greatest magnitude
greatest_room : (c : Numbers) → IsFastController c → all_weights c.steps * greatest_of (plan_magnitudes c) ≤ 2 ^ 126
greatest_room c s = omega (arith, s.room, by_weights Accelerated c (some_bound Accelerated c s.form.sized))

pub fast_sound : (c : Numbers) → IsFastController c → IsLooping (looping_of_fast c)
fast_sound c s =
    let sized = s.form.sized.rest in
    record {
      sized = sized;
      weight = few c.steps s.form.sized.steps.0 s.form.sized.steps.1;
      room = λ j h. greatest_room c s;
      long = λ xi g. omega (arith, (ready_law c xi s g c.steps).entries.sums_long, input_in c sized);
      within = λ xi g j h. (
          let each = (ready_law c xi s g c.steps).entries.each j (omega (arith, input_in c sized, h)) in
          le_trans each (mul-le (all_weights c.steps) (get_or (plan_magnitudes c) j 0) (all_weights c.steps) (greatest_of (plan_magnitudes c)) (le_refl (all_weights c.steps)) (get_or-le-greatest (plan_magnitudes c) j))
          );
    }
