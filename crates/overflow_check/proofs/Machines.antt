-- What holds of the controllers of either machine, and the greatest of their absolute sums by weights.
use Rattle.std.proofs.Common.{◌≡◌, inl, inr, ℕ, zero, suc, ◌+◌, ◌*◌, ◌^◌, ◌≤◌, ◌<◌, max, length, map, unsigned_abs, arith, refl, le_refl, ◌∙◌, ap}
use Rattle.std.specs.Prelude.{slice_index_or}
use Rattle.std.specs.List.{range_with_len}
use Rattle.std.proofs.lemmas.Grind.{common_steps}
use Rattle.std.proofs.lemmas.Bool.{cases_lt}
use Rattle.std.proofs.lemmas.Nat.{mul-le, pow_pos}
use Rattle.std.proofs.lemmas.List.FromFn.{get_or-map-range_with_len}
use Rattle.integer_algebra.specs.Division.{ceil_div}
use Rattle.qp_model.specs.problem.Range.{LiesIn}
use Rattle.qp_model.specs.machine.Controller.{Numbers, IsSized}
use Rattle.qp_model.specs.machine.AbsoluteSums.{entry_absolute_sum, plan_magnitudes, row_absolute_sum, next_magnitude, sum_magnitude, greatest_of, greatest_sum, IsController}
use Rattle.qp_model.proofs.AbsoluteLaws.{ceil_div_mono}
use Rattle.qp_model.proofs.VersionLaws.{states_le, stages_le, limits_le}
use Rattle.overflow_check.specs.FastMachine.{all_weights}
use Rattle.overflow_check.specs.FastController.{with_last_version, moved_magnitude, fast_sum_magnitude, greatest_fast_sum}
use Rattle.overflow_check.specs.Machines.{IsSizedFor, IsControllerFor, greatest_for, greatest_row_sum, weights_for, greatest_weighed}
use Rattle.overflow_check.specs.Width.{IsWidth}
use Rattle.overflow_check.specs.declared.machine.Machine.{Machine}
use Rattle.overflow_check.specs.declared.machine.Machine.TheVariants.{Plain, Accelerated}
use Rattle.overflow_check.proofs.Greatest.{greatest-parts, fast-parts, le-greatest, greatest_mono}

-- what the numbers of both machines have
pub shared : (m : Machine) (c : Numbers) → IsSizedFor m c → IsSized (with_last_version c)
shared Plain c s = grind (arith, common_steps, states_le c s, stages_le c s, limits_le c s)
shared Accelerated c s = s.rest

width_within : (n w : ℕ) → n ≤ 2 ^ 126 → IsWidth n w → LiesIn 2 128 w
width_within n w room is = (is.two, is.least 128 (omega arith) (omega (arith, room)))

pub some_bound : (m : Machine) (c : Numbers) → IsSizedFor m c → 1 ≤ length c.bounds
some_bound m c s = let sized = shared m c s in omega (arith, sized.shaped.bounds, sized.rows)

-- with its least width, it is a controller
pub controller_from : (m : Machine) (c : Numbers) (w : ℕ) → IsSizedFor m c → greatest_for m c ≤ 2 ^ 126 → IsWidth (greatest_for m c) w → IsControllerFor m (record c { width = w })
controller_from Plain c w s room is =
    record { form = record { sized = grind (arith, common_steps); width = width_within (greatest_sum c) w room is }; room = room; fit = is.holds }
controller_from Accelerated c w s room is =
    record { form = record { sized = grind (arith, common_steps); width = width_within (greatest_fast_sum c) w room is }; room = room; fit = is.holds }

-- ---- as a controller of the plain machine
-- so many steps are at most their weights together
steps_le_weights : (n : ℕ) → n ≤ all_weights n
unfolding all_weights
steps_le_weights zero = omega arith
steps_le_weights (suc n) = omega (arith, mul-le (suc n) 2 (suc n) (suc n + 3) (le_refl (suc n)) (omega arith))

less_next : (c : Numbers) (i : ℕ) → next_magnitude c i ≤ moved_magnitude c i
less_next c i =
    let row = ceil_div (row_absolute_sum c i) (2 ^ c.fraction_bits) in
    omega (arith, mul-le 1 row (c.steps + 1) row (omega arith) (le_refl row))

less_sum : (c : Numbers) (j : ℕ) → sum_magnitude c j ≤ fast_sum_magnitude c j
less_sum c j =
    let top = slice_index_or (plan_magnitudes c) j 0 in
    mul-le c.steps top (all_weights c.steps) top (steps_le_weights c.steps) (le_refl top)

less_greatest : (c : Numbers) → greatest_sum c ≤ greatest_fast_sum c
less_greatest c =
    omega (arith, greatest-parts c, fast-parts c, greatest_mono (next_magnitude c) (moved_magnitude c) (length c.bounds) (λ i l. less_next c i), greatest_mono (sum_magnitude c) (fast_sum_magnitude c) (length c.offsets) (λ j l. less_sum c j))

-- a controller of either machine is one of the plain machine, but for its version and words
pub as_last : (m : Machine) (c : Numbers) → IsControllerFor m c → IsController (with_last_version c)
as_last Plain c h = record { form = record { sized = shared Plain c h.form.sized; width = h.form.width }; room = h.room; fit = h.fit }
as_last Accelerated c h = record {
  form = record { sized = h.form.sized.rest; width = h.form.width };
  room = omega (arith, less_greatest c, h.room);
  fit = omega (arith, less_greatest c, h.fit);
}

-- ---- the greatest sum, by weights
-- the greatest of what a function that does not fall makes of numbers is what it makes of the greatest of them, or of 0
images : (g : ℕ → ℕ) → ((a b : ℕ) → a ≤ b → g a ≤ g b) → (f : ℕ → ℕ) (a n : ℕ) →
    max (g 0) (greatest_of (map (λ i. g (f i)) (range_with_len a n))) ≡ g (greatest_of (map f (range_with_len a n)))
images g up f a zero = omega arith
images g up f a (suc n) = larger (f a) (greatest_of (map f (range_with_len (a + 1) n))) _ (images g up f (a + 1) n)
  where
    larger : (x y r : ℕ) → max (g 0) r ≡ g y → max (g 0) (max (g x) r) ≡ g (max x y)
    larger x y r e = elim (cases_lt x y) [
      | inl l ↦ (let is : max x y ≡ y = omega (arith, l) in rw is (omega (arith, e, up x y (omega (arith, l)))))
      | inr l ↦ (let is : max x y ≡ x = omega (arith, l) in rw is (omega (arith, e, up y x l, up 0 x (omega arith))))
    ]

-- numbers that are the same by index
same_greatest : (f g : ℕ → ℕ) (n : ℕ) → ((i : ℕ) → i < n → f i ≡ g i) → greatest_of (map f (range_with_len 0 n)) ≡ greatest_of (map g (range_with_len 0 n))
same_greatest f g n same =
    omega (arith, greatest_mono f g n (λ i l. omega (arith, same i l)), greatest_mono g f n (λ i l. omega (arith, same i l)))

-- multipliers before they are clamped
nexts : (c : Numbers) (top step : ℕ) (next : ℕ → ℕ) → 1 ≤ length c.bounds → ((i : ℕ) → next i ≡ top + step * ceil_div (row_absolute_sum c i) (2 ^ c.fraction_bits)) →
    greatest_of (map next (range_with_len 0 (length c.bounds))) ≡ top + step * ceil_div (greatest_row_sum c) (2 ^ c.fraction_bits)
nexts c top step next some is =
    let d = 2 ^ c.fraction_bits in
    let m = length c.bounds in
    let g : ℕ → ℕ = λ x. top + step * ceil_div x d in
    let up : (a b : ℕ) → a ≤ b → g a ≤ g b = λ a b l. omega (arith, mul-le step (ceil_div a d) step (ceil_div b d) (le_refl step) (ceil_div_mono a b d (pow_pos c.fraction_bits) l)) in
    let first : g 0 ≤ greatest_of (map (λ i. g (row_absolute_sum c i)) (range_with_len 0 m)) = omega (arith, up 0 (row_absolute_sum c 0) (omega arith), le-greatest (λ i. g (row_absolute_sum c i)) m 0 (omega (arith, some))) in
    omega (arith, same_greatest next (λ i. g (row_absolute_sum c i)) m (λ i l. is i), images g up (row_absolute_sum c) 0 m, first)

-- the sums of a run
sums : (c : Numbers) (all : ℕ) (sum : ℕ → ℕ) → ((j : ℕ) → sum j ≡ all * slice_index_or (plan_magnitudes c) j 0) →
    greatest_of (map sum (range_with_len 0 (length c.offsets))) ≡ all * greatest_of (plan_magnitudes c)
sums c all sum is =
    let n = length c.offsets in
    let u : ℕ → ℕ = λ j. ceil_div (entry_absolute_sum c j) (2 ^ (c.fraction_bits + c.step_exponent)) in
    let up : (a b : ℕ) → a ≤ b → all * a ≤ all * b = λ a b l. mul-le all a all b (le_refl all) l in
    let same : (j : ℕ) → j < n → sum j ≡ all * u j = λ j l. is j ∙ ap (λ (x : ℕ). all * x) (get_or-map-range_with_len u 0 n j j 0 l (omega arith)) in
    let none : all * 0 ≡ 0 = omega arith in
    omega (arith, same_greatest sum (λ j. all * u j) n same, images (λ x. all * x) up u 0 n, none)

pub by_weights : (m : Machine) (c : Numbers) → 1 ≤ length c.bounds → greatest_for m c ≡ greatest_weighed (weights_for m c) c
by_weights Plain c some = omega (
  arith,
  greatest-parts c,
  nexts c (unsigned_abs c.clamp) 1 (next_magnitude c) some (λ i. omega arith),
  sums c c.steps (sum_magnitude c) (λ j. refl),
)
by_weights Accelerated c some = omega (
  arith,
  fast-parts c,
  nexts c (2 * unsigned_abs c.clamp) (c.steps + 1) (moved_magnitude c) some (λ i. refl),
  sums c (all_weights c.steps) (fast_sum_magnitude c) (λ j. refl),
)
