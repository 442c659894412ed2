-- A corner with its plan and its reference plan, and what an entry of these adds.
use Rattle.std.specs.Prelude.{◌≡◌, ℕ, suc, ◌*◌, ◌^◌, ◌<◌, ◌≤◌, max, List, length, ℤ, pos, ◌≤ℤ◌, ◌+ℤ◌, unsigned_abs}
use Rattle.integer_algebra.specs.Sums.{at, total, square}
use Rattle.integer_algebra.specs.Sizes.{amount}
use Rattle.frac_scaled.specs.Enclosures.{Enclosure, magnitude}
use Rattle.qp_model.specs.problem.Design.{Design, entries}
use Rattle.qp_model.specs.problem.Box.{corner}
use Rattle.qp_model.specs.problem.Policy.{Plans, corner_denominator, corner_plan}
use Rattle.qp_model.specs.problem.Runs.{Holds}
use Rattle.qp_model.specs.form.Form.{Form}
use Rattle.qp_model.specs.form.Quantities.{greatest, input_floor}
use Rattle.qp_model.specs.bounds.Excess.{slope_enclosure, steepness, slope_size, reach, excess_at, excess_size_at}
use Rattle.plan_excess.specs.declared.rows.Row.{Row}
use Rattle.plan_excess.specs.declared.corner.Corner.{Corner}
use Rattle.plan_excess.specs.declared.slope.Slope.{Slope}
use Rattle.plan_excess.specs.declared.sums.Sums.{Sums}
use Rattle.enclosure.specs.Values.{pair}

-- numerators of a plan for n entries, over a positive number
pub record IsPlan (n : ℕ) (numerators : List ℤ) (over : ℤ) : Type 0 where
  pub long : length numerators ≡ n
  pub small : (j : ℕ) → j < n → unsigned_abs (at numerators j) ≤ 2 ^ 63
  pub positive : pos 1 ≤ℤ over

-- both plans of a corner, for as many entries, and a positive number that its state is over
pub record AreCornerPlans (k : Corner) : Type 0 where
  pub plan : IsPlan (length k.plan.now) k.plan.now k.over
  pub reference : IsPlan (length k.plan.now) k.reference.now k.under
  pub grid : pos 1 ≤ℤ k.grid

-- a row has as many numbers as the plan and the state of a corner
pub record IsFitting (k : Corner) (row : Row) : Type 0 where
  pub plan : length k.plan.now ≡ length row.plan.items
  pub state : length k.state.items ≡ length row.state.items

-- corner c, counted from 0, with its plan of a policy and its reference plan
pub record IsCornerOf (d : Design) (p r : Plans) (c : ℕ) (k : Corner) : Type 0 where
  pub state : Holds k.state.items d.states (corner d (suc c))
  pub grid : k.grid ≡ pos (2 ^ d.grid)
  pub plan : IsPlan (entries d) k.plan.now k.over
  pub reference : IsPlan (entries d) k.reference.now k.under
  pub plan_is : (j : ℕ) → at k.plan.now j ≡ corner_plan p (suc c) j
  pub over_is : k.over ≡ corner_denominator p (suc c)
  pub reference_is : (j : ℕ) → at k.reference.now j ≡ corner_plan r (suc c) j
  pub under_is : k.under ≡ corner_denominator r (suc c)

-- the enclosures of a corner, by its own numbers
abbrev pub corner_slope : Design → Form → Corner → ℕ → Enclosure
corner_slope d h k = slope_enclosure d h (at k.state.items) (unsigned_abs k.over) (at k.plan.now) (unsigned_abs k.under) (at k.reference.now)

abbrev pub steepness_at : Design → Form → Corner → ℕ → ℤ
steepness_at d h k = steepness d h (at k.state.items) (unsigned_abs k.under) (at k.reference.now)

abbrev pub slope_size_at : Design → Form → Corner → ℕ → ℕ
slope_size_at d h k = slope_size d h (at k.state.items) (unsigned_abs k.over) (at k.plan.now) (unsigned_abs k.under) (at k.reference.now)

-- what entry j adds
pub record IsSlope (d : Design) (h : Form) (k : Corner) (j : ℕ) (s : Slope) : Type 0 where
  pub value : pair s.value ≡ corner_slope d h k j
  pub steepness : pos s.steepness ≡ steepness_at d h k j

-- magnitudes and squares as naturals
abbrev pub far_by : (ℕ → Enclosure) → ℕ → ℕ
far_by slope j = reach (slope j)

abbrev pub squares_by : (ℕ → ℤ) → ℕ → ℕ
squares_by steep j = unsigned_abs (steep j) * unsigned_abs (steep j)

-- what the first n of them add: the rises, the magnitudes and the squares
pub record AreSlopeSums (n : ℕ) (slope : ℕ → Enclosure) (steep : ℕ → ℤ) (s : Sums) : Type 0 where
  pub rise : s.rise ≡ total n (λ j. (slope j).mid +ℤ (slope j).rad)
  pub reach : s.reach ≡ amount n (far_by slope)
  pub squares : s.squares ≡ amount n (squares_by steep)

-- what the sums' calls test
abbrev pub sums_size : (n : ℕ) → (size : ℕ → ℕ) → (slope : ℕ → Enclosure) → (steep : ℕ → ℤ) → ℕ
sums_size n size slope steep =
    max (greatest n size) (max (unsigned_abs (total n (λ j. magnitude (slope j)))) (unsigned_abs (total n (λ j. square (steep j)))))

-- ---- the excess of a corner, by its own numbers
abbrev pub excess_by : Design → Form → Corner → ℤ
excess_by d h k = excess_at d h (at k.state.items) (unsigned_abs k.over) (at k.plan.now) (unsigned_abs k.under) (at k.reference.now)

abbrev pub excess_size_by : Design → Form → Corner → ℕ
excess_size_by d h k = excess_size_at d h (at k.state.items) (unsigned_abs k.over) (at k.plan.now) (unsigned_abs k.under) (at k.reference.now)

-- and the quantity of corner c, counted from 0, of a policy and its reference plans
abbrev pub corner_size : Design → Form → (policy reference : Plans) → ℕ → ℕ
corner_size d h p r c = excess_size_at d h (corner d (suc c)) (unsigned_abs (corner_denominator p (suc c))) (corner_plan p (suc c))
    (unsigned_abs (corner_denominator r (suc c))) (corner_plan r (suc c))

-- a corner's grid, what weights are over and the least input weight are a design's
pub record HasWeights (d : Design) (k : Corner) (weight_den floor : ℤ) : Type 0 where
  pub grid : k.grid ≡ pos (2 ^ d.grid)
  pub weights : weight_den ≡ pos d.cost_denominator
  pub least : unsigned_abs floor ≡ input_floor d
