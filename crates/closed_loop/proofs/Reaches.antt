-- The numbers of a turn stay within the quantity `turn`.
use Rattle.std.proofs.Common.{ℕ, zero, suc, ◌-◌, ◌*◌, ◌^◌, ◌<◌, ◌≤◌, max, ℤ, pos, ◌*ℤ◌, ◌≤ℤ◌, List, unsigned_abs, FitsSigned, arith, le_refl}
use Rattle.std.specs.Int.{w128}
use Rattle.std.proofs.lemmas.Int.{ints, unsigned_abs-mul, fits_signed_from_abs}
use Rattle.std.proofs.lemmas.Nat.{mul-le, pow_below, pow_pos}
use Rattle.integer_algebra.specs.Sums.{at, image}
use Rattle.integer_algebra.specs.Sizes.{amount}
use Rattle.integer_algebra.proofs.SizeLaws.{dot_bound}
use Rattle.mat_int.proofs.Dots.{abs-add_le}
use Rattle.qp_model.specs.problem.Design.{Design}
use Rattle.qp_model.specs.machine.Controller.{Numbers}
use Rattle.qp_model.specs.machine.Machine.{IsAdmissible}
use Rattle.qp_model.specs.machine.Successor.{IsFor}
use Rattle.qp_model.specs.machine.LoopSize.{coordinate_magnitude, state_absolute_sum}
use Rattle.qp_model.proofs.SizeFacts.{greatest_term}
use Rattle.closed_loop.specs.Looping.{Looping, IsLooping, grid_scale_by, next_sum_by, input_absolute_sum_by, turn_absolute_sum_by, turn_size_by}

-- ---- sums
amount_mono : (n : ℕ) (f g : ℕ → ℕ) → ((i : ℕ) → i < n → f i ≤ g i) → amount n f ≤ amount n g
amount_mono zero f g h = omega arith
amount_mono (suc n) f g h = omega (arith, amount_mono n f g (λ i l. h i (omega arith)), h n (omega arith))

-- the product of two numerators
pub product_small : (a b : ℕ) → a < 2 ^ 31 → b < 2 ^ 31 → a * b ≤ 2 ^ 62
product_small a b h l = omega (arith, mul-le a b (2 ^ 31) (2 ^ 31) (omega arith) (omega arith))

-- ---- the parts of the quantity
-- the steps' weight, scaled by at most 48 bits
pub weight_small : (l : Looping) (k : ℕ) → IsLooping l → k ≤ 48 → l.weight * 2 ^ k < 2 ^ 81
weight_small l k s h =
    omega (arith, mul-le l.weight (2 ^ k) (2 ^ 31) (2 ^ 49) s.weight.1 (omega (arith, pow_below k 49 (omega (arith, h)))))

pub scale_small : (l : Looping) → IsLooping l → grid_scale_by l < 2 ^ 81
scale_small l s = weight_small l (l.controller.fraction_bits - l.controller.grid_bits) s (omega (arith, s.sized.fraction_bits))

pub scale_some : (l : Looping) → IsLooping l → 1 ≤ grid_scale_by l
scale_some l s = mul-le 1 1 l.weight (2 ^ (l.controller.fraction_bits - l.controller.grid_bits)) s.weight.0 (pow_pos (l.controller.fraction_bits - l.controller.grid_bits))

pub reach_under : (d : Design) (l : Looping) (i : ℕ) → i < d.states → turn_size_by d l ≤ 2 ^ 126 → turn_absolute_sum_by d l i ≤ 2 ^ 125
reach_under d l i h n = omega (arith, greatest_term i d.states (turn_absolute_sum_by d l) h, n)

-- ---- what a run gives stays within them
between : (low x high : ℤ) → low ≤ℤ x → x ≤ℤ high → unsigned_abs x ≤ max (unsigned_abs low) (unsigned_abs high)
between low x high h l = omega (arith, ints, h, l)

coordinate_within : (c : Numbers) (xi : List ℤ) (j : ℕ) → IsAdmissible c xi → j < c.states → unsigned_abs (at xi j) ≤ coordinate_magnitude c j
coordinate_within c xi j g h = between (at c.low j) (at xi j) (at c.high j) (g.each j h).low (g.each j h).high

pub states_within : (d : Design) (c : Numbers) (xi : List ℤ) (i : ℕ) → IsFor c d → IsAdmissible c xi → amount d.states (λ j. unsigned_abs (d.plant_a i j) * unsigned_abs (at xi j)) ≤ state_absolute_sum d c i
states_within d c xi i m g =
    amount_mono d.states _ _ (λ j h. mul-le (unsigned_abs (d.plant_a i j)) (unsigned_abs (at xi j)) (unsigned_abs (d.plant_a i j)) (coordinate_magnitude c j) (le_refl (unsigned_abs (d.plant_a i j)))
    (coordinate_within c xi j g (omega (arith, m.states))))

module _ (d : Design) (l : Looping) (xi : List ℤ) (i : ℕ) (m : IsFor l.controller d) (s : IsLooping l) (g : IsAdmissible l.controller xi) where
  pub inputs_within : amount d.inputs (λ j. unsigned_abs (d.plant_b i j) * unsigned_abs (at (l.plan xi) j)) ≤ input_absolute_sum_by d l i
  inputs_within =
      amount_mono d.inputs _ _ (λ j h. mul-le (unsigned_abs (d.plant_b i j)) (unsigned_abs (at (l.plan xi) j)) (unsigned_abs (d.plant_b i j)) (l.weight * l.magnitude j)
      (le_refl (unsigned_abs (d.plant_b i j))) (s.within xi g j (omega (arith, m.inputs))))

  module _ (n : turn_size_by d l ≤ 2 ^ 126) (h : i < d.states) where
    -- the products of the inputs leave room
    pub inputs_room : amount d.inputs (λ j. unsigned_abs (d.plant_b i j) * unsigned_abs (at (l.plan xi) j)) < 2 ^ 127
    inputs_room = omega (arith, inputs_within, reach_under d l i h n)

    -- those of the state, also when they are times the scale
    pub states_room : amount d.states (λ j. unsigned_abs (d.plant_a i j) * unsigned_abs (at xi j)) * grid_scale_by l ≤ 2 ^ 125
    states_room =
        omega (
          arith,
          mul-le (amount d.states (λ j. unsigned_abs (d.plant_a i j) * unsigned_abs (at xi j))) (grid_scale_by l) (state_absolute_sum d l.controller i) (grid_scale_by l)
              (states_within d l.controller xi i m g) (le_refl (grid_scale_by l)),
          reach_under d l i h n,
        )

    pub dot_room : amount d.states (λ j. unsigned_abs (d.plant_a i j) * unsigned_abs (at xi j)) < 2 ^ 127
    dot_room =
        let sum = amount d.states (λ j. unsigned_abs (d.plant_a i j) * unsigned_abs (at xi j)) in
        omega (arith, mul-le sum 1 sum (grid_scale_by l) (le_refl sum) (scale_some l s), states_room)

    -- the state's part of the next state
    pub own_le : unsigned_abs (image d.states d.plant_a (at xi) i *ℤ pos (grid_scale_by l)) ≤ 2 ^ 125
    own_le =
        let sum = amount d.states (λ j. unsigned_abs (d.plant_a i j) * unsigned_abs (at xi j)) in
        rw (unsigned_abs-mul (image d.states d.plant_a (at xi) i) (pos (grid_scale_by l)))
        (omega (arith, mul-le (unsigned_abs (image d.states d.plant_a (at xi) i)) (grid_scale_by l) sum (grid_scale_by l) (dot_bound d.states (d.plant_a i) (at xi)) (le_refl (grid_scale_by l)), states_room))

    -- the whole
    pub next_small : unsigned_abs (next_sum_by d l xi i) ≤ 2 ^ 126
    next_small =
        let own = image d.states d.plant_a (at xi) i *ℤ pos (grid_scale_by l) in
        let input = image d.inputs d.plant_b (at (l.plan xi)) i in
        omega (arith, abs-add_le own input, own_le, dot_bound d.inputs (d.plant_b i) (at (l.plan xi)), inputs_within, reach_under d l i h n)

    pub next_fits : FitsSigned w128 (next_sum_by d l xi i)
    next_fits = fits_signed_from_abs w128 _ (omega (arith, next_small))
