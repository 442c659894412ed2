-- Both classes have a unit and a reach.
use Rattle.std.proofs.Common.{◌≡◌, ℕ, ◌+◌, ◌*◌, ◌^◌, ◌≤◌, unsigned_abs, arith, subst, sym}
use Rattle.std.proofs.Math.Nat.{pow-le-pow_left, mul-le-mul, mul-le-mul_left, mul-le-mul_right}
use Rattle.integer_algebra.specs.Sums.{none}
use Rattle.integer_algebra.proofs.PowerLaws.{pow_positive}
use Rattle.qp_model.specs.problem.Design.{entries}
use Rattle.qp_model.specs.problem.Parts.{design_of}
use Rattle.qp_model.specs.problem.Runs.{unit}
use Rattle.qp_model.specs.form.Quantities.{prediction_size, cost_width, weight_sum}
use Rattle.qp_model.proofs.QuantityLaws.{unit_small, growth_bound}
use Rattle.qp_model.proofs.SizeFacts.{positive, some_entry}
use Rattle.scaled_run.specs.ScaledForm.{wholes_over, exact_unit}
use Rattle.scaled_run.specs.ScaledSizes.{scaled_reach}
use Rattle.scaled_run.proofs.SizeLaws.{prediction_is}
use Rattle.scaled_run.proofs.RoomLaws.{exact_room_law}
use Rattle.scaled_run.specs.Lists.{Reaches}
use Rattle.scaled_run.proofs.Rooms.{whole_reaches, reaches_more, reach_first, enclosed_states_reach, exact_states_reach}
use Rattle.scaled_condense.specs.Laws.{FineScaleLaw, ExactScaleLaw, AreaLaw}

none_small : (i : ℕ) → unsigned_abs (none i) ≤ 1
none_small i = omega arith

-- a unit's own reach
unit_reaches : (m j i : ℕ) → Reaches (wholes_over m (unit j) i) m
unit_reaches m j i = whole_reaches m (unit j i) m (once m _ (unit_small j i))
  where
    once : (m n : ℕ) → n ≤ 1 → m * n ≤ m
    once m n h = omega (arith, mul-le-mul_left m h)

none_reaches : (m i : ℕ) → Reaches (wholes_over m none i) m
none_reaches m i = whole_reaches m (none i) m (omega arith)

pub fine_scale_law : FineScaleLaw
fine_scale_law p h k = record {
  design = h;
  some = omega arith;
  covers = reach_first 3 (design_of p) (positive p.plant_den h.plant_den.low) (2 ^ 40) p.stages;
  room = k;
  of_plan = λ j k i l o. enclosed_states_reach (design_of p) (positive p.plant_den h.plant_den.low) (2 ^ 40) (wholes_over (2 ^ 40) none) (wholes_over (2 ^ 40) (unit j))
      (λ i l. none_reaches (2 ^ 40) i) (λ i l. unit_reaches (2 ^ 40) j i) k i l o;
  of_state = λ j k i l o. enclosed_states_reach (design_of p) (positive p.plant_den h.plant_den.low) (2 ^ 40) (wholes_over (2 ^ 40) (unit j)) (wholes_over (2 ^ 40) none)
      (λ i l. unit_reaches (2 ^ 40) j i) (λ i l. none_reaches (2 ^ 40) i) k i l o;
}

pub exact_scale_law : ExactScaleLaw
exact_scale_law p h k = record {
  design = h;
  some = pow_positive (unsigned_abs p.plant_den) p.stages (positive p.plant_den h.plant_den.low);
  covers = subst (λ (n : ℕ). exact_unit (design_of p) ≤ n) (sym reach_is) (pow-le-pow_left (growth_bound (design_of p)).denominator p.stages);
  room = within (exact_room_law p h k);
  of_plan = λ j k i l o. reaches_more (exact_states_reach (design_of p) (positive p.plant_den h.plant_den.low) 1 none (unit j) (λ i l. none_small i) (λ i l. unit_small j i) k i l o) most;
  of_state = λ j k i l o. reaches_more (exact_states_reach (design_of p) (positive p.plant_den h.plant_den.low) 1 (unit j) none (λ i l. unit_small j i) (λ i l. none_small i) k i l o) most;
}
  where
    reach_is : scaled_reach (exact_unit (design_of p)) 0 (design_of p) ≡ prediction_size (design_of p)
    reach_is = prediction_is (design_of p) (positive p.plant_den h.plant_den.low)

    within : {n : ℕ} → n ≤ 2 ^ 99 → n ≤ 2 ^ 126
    within h = omega (arith, h)

    most : 1 * prediction_size (design_of p) ≤ scaled_reach (exact_unit (design_of p)) 0 (design_of p)
    most = subst (λ (n : ℕ). 1 * prediction_size (design_of p) ≤ n) (sym reach_is) (once (prediction_size (design_of p)))
      where
        once : (n : ℕ) → 1 * n ≤ n
        once n = omega arith

pub area_law : AreaLaw
area_law p reach h k = last (entries (design_of p)) p.states (weight_sum (design_of p)) ((cost_width (design_of p) * reach) ^ 2) (some_entry p h) h.states.0 k
  where
    few : (e n : ℕ) → 1 ≤ e → 1 ≤ n → 2 ≤ e * (e + n + 1)
    few e n h k = omega (arith, mul-le-mul h (wide e n h k))
      where
        wide : (e n : ℕ) → 1 ≤ e → 1 ≤ n → 2 ≤ e + n + 1
        wide e n h k = omega arith

    last : (e n w s : ℕ) → 1 ≤ e → 1 ≤ n → e * (e + n + 1) * (2 * w * s) ≤ 2 ^ 126 → 4 * (w * s) ≤ 2 ^ 126
    last e n w s h k l = omega (arith, l, mul-le-mul_right (2 * w * s) (few e n h k))
