-- Runs of a design's plant, in numerators over the powers of its denominator.
use Rattle.std.specs.Prelude.{◌≡◌, ℕ, zero, suc, ◌+◌, ◌-◌, ◌*◌, ◌/◌, ◌%◌, ◌^◌, ◌≤◌, ◌<◌, ℤ, pos, ◌+ℤ◌, ◌-ℤ◌, ◌*ℤ◌, neg_ℤ, unsigned_abs, nat_eq, nat_lt, if◌then◌else◌, List, length}
use Rattle.integer_algebra.specs.Sums.{total, dot, image, none, at}
use Rattle.integer_algebra.specs.Sizes.{size}
use Rattle.qp_model.specs.problem.Design.{Design, CostRow, LimitRow, entries, rows}
use Rattle.qp_model.specs.form.Condensed.{Condensed, IsCondensed}
use Rattle.qp_model.specs.problem.Trajectory.{lift, trajectory}
use Rattle.qp_model.specs.problem.Residual.{residual}
use Rattle.qp_model.specs.form.Condensing.{power, response, condensed_of, own_input, cost_target}

-- the state at a stage, from the state x under the plan v, as a numerator over plant_denominator^stage
abbrev pub run : Design → (x v : ℕ → ℤ) → ℕ → ℕ → ℤ
run d x v zero i = x i
run d x v (suc k) i =
    image d.states d.plant_a (run d x v k) i +ℤ
    pos (d.plant_denominator ^ k) *ℤ image d.inputs d.plant_b (λ l. v (k * d.inputs + l)) i

-- 1 at j, and 0 elsewhere
abbrev pub unit : ℕ → ℕ → ℤ
unit j i = if nat_eq j i then pos 1 else pos 0

-- what a limit row has of a run, over plant_denominator^stages
abbrev pub limit_at : Design → (x v : ℕ → ℤ) → ℕ → LimitRow → ℤ
limit_at d x v k r =
    lift d k *ℤ (dot d.states r.of_state (run d x v k) +ℤ
    pos (d.plant_denominator ^ k) *ℤ dot d.inputs r.of_input (λ l. v (k * d.inputs + l)))

-- the same of row i of all rows
abbrev pub row_at : Design → (x v : ℕ → ℤ) → ℕ → ℤ
row_at d x v i =
    if nat_lt i (d.stages * d.stage_limits) then
    limit_at d x v (i / d.stage_limits) (d.stage_limit (i % d.stage_limits))
    else dot d.states (d.final_limit (i - d.stages * d.stage_limits)).of_state (run d x v d.stages)

-- the bound of row i of all rows, over limit_denominator
abbrev pub bound_at : Design → ℕ → ℤ
bound_at d i =
    if nat_lt i (d.stages * d.stage_limits) then (d.stage_limit (i % d.stage_limits)).bound
    else (d.final_limit (i - d.stages * d.stage_limits)).bound

-- ---- bounds
-- alpha bounds the growth of a run in one stage
pub record BoundsGrowth (d : Design) (alpha : ℕ) : Type 0 where
  pub denominator : d.plant_denominator ≤ alpha
  pub plant : (i : ℕ) → i < d.states → size d.states (d.plant_a i) + size d.inputs (d.plant_b i) ≤ alpha

-- each limit row's absolute sum, without its bound, is at most `width`
pub record HasNarrowLimits (d : Design) (width : ℕ) : Type 0 where
  pub stage : (r : ℕ) → r < d.stage_limits → size d.states (d.stage_limit r).of_state + size d.inputs (d.stage_limit r).of_input ≤ width
  pub final : (r : ℕ) → r < d.final_limits → size d.states (d.final_limit r).of_state ≤ width

-- ---- lists that hold the values of functions
pub record Holds (xs : List ℤ) (n : ℕ) (f : ℕ → ℤ) : Type 0 where
  pub long : length xs ≡ n
  pub is : (i : ℕ) → i < n → at xs i ≡ f i

-- a trajectory, responses and residuals are those of runs
pub record IsPlantRun (d : Design) : Type 0 where
  pub trajectory : (q : ℤ) (xi u : ℕ → ℤ) (k i : ℕ) →
      trajectory d q xi u k i ≡ run d (λ j. q *ℤ xi j) (λ j. pos (2 ^ d.grid) *ℤ u j) k i
  pub power : (k i j : ℕ) → power d k i j ≡ run d (unit j) none k i
  pub response : (k i j : ℕ) → 1 ≤ d.inputs → response d k i j ≡ run d none (unit j) k i
  pub within : (alpha z : ℕ) (x v : ℕ → ℤ) → BoundsGrowth d alpha →
      ((i : ℕ) → i < d.states → unsigned_abs (x i) ≤ z) → ((j : ℕ) → j < entries d → unsigned_abs (v j) ≤ z) →
      (k i : ℕ) → k ≤ d.stages → i < d.states → unsigned_abs (run d x v k i) ≤ z * alpha ^ k

abbrev pub PlantRunLaw : Type 0
PlantRunLaw = (d : Design) → IsPlantRun d

-- ---- the rows
-- what rows have of unit plans and unit states, and the bounds: the numbers that condensing makes
pub record AreResponses (d : Design) (g e : ℕ → ℕ → ℤ) (b : ℕ → ℤ) : Type 0 where
  pub plan : (i j : ℕ) → i < rows d → j < entries d → g i j ≡ row_at d none (unit j) i
  pub state : (i j : ℕ) → i < rows d → j < d.states → e i j ≡ row_at d (unit j) none i
  pub bound : (i : ℕ) → i < rows d → b i ≡ pos (d.plant_denominator ^ d.stages) *ℤ bound_at d i

-- such numbers give the residuals of every plan at every state and every q
abbrev pub ResponseLaw : Type 0
ResponseLaw = (d : Design) (g e : ℕ → ℕ → ℤ) (bound : ℕ → ℤ) → 1 ≤ d.inputs → AreResponses d g e bound →
    (q : ℤ) (xi u : ℕ → ℤ) (i : ℕ) → i < rows d → residual d q xi u i ≡
    pos (2 ^ d.grid) *ℤ image (entries d) g u i +ℤ q *ℤ (image d.states e xi i -ℤ pos (2 ^ d.grid) *ℤ bound i)

-- a residual is that of a run
abbrev pub ResidualLaw : Type 0
ResidualLaw = (d : Design) (q : ℤ) (xi u : ℕ → ℤ) (i : ℕ) →
    residual d q xi u i ≡ row_at d (λ j. q *ℤ xi j) (λ j. pos (2 ^ d.grid) *ℤ u j) i -ℤ
    pos (2 ^ d.grid) *ℤ q *ℤ (pos (d.plant_denominator ^ d.stages) *ℤ bound_at d i)

-- rows of runs stay within bounds
abbrev pub RowBoundLaw : Type 0
RowBoundLaw = (d : Design) (alpha z width : ℕ) (x v : ℕ → ℤ) → 1 ≤ d.plant_denominator → BoundsGrowth d alpha → HasNarrowLimits d width →
    ((i : ℕ) → i < d.states → unsigned_abs (x i) ≤ z) → ((j : ℕ) → j < entries d → unsigned_abs (v j) ≤ z) →
    (i : ℕ) → i < rows d → unsigned_abs (row_at d x v i) ≤ width * (z * alpha ^ d.stages)

-- ---- costs
-- what a cost row has of a run at a stage, over row_denominator * plant_denominator^stages
abbrev pub cost_run : Design → (x v : ℕ → ℤ) → ℕ → CostRow → ℤ
cost_run d x v k r = lift d k *ℤ dot d.states r.coefficient (run d x v k)

-- f at counted cost row c: the stage rows of stage 1, of stage 2 and so on, then the final rows
abbrev pub counted : Design → (ℕ → CostRow → ℤ) → ℕ → ℤ
counted d f c =
    if nat_lt c (d.stages * d.stage_costs) then f (suc (c / d.stage_costs)) (d.stage_cost (c % d.stage_costs))
    else f d.stages (d.final_cost (c - d.stages * d.stage_costs))

abbrev pub counts : Design → ℕ
counts d = d.stages * d.stage_costs + d.final_costs

-- each cost row's absolute sum, without its target, is at most `width`
pub record HasNarrowCosts (d : Design) (width : ℕ) : Type 0 where
  pub stage : (r : ℕ) → r < d.stage_costs → size d.states (d.stage_cost r).coefficient ≤ width
  pub final : (r : ℕ) → r < d.final_costs → size d.states (d.final_cost r).coefficient ≤ width

-- cost rows of runs stay within bounds
abbrev pub CostBoundLaw : Type 0
CostBoundLaw = (d : Design) (alpha z width : ℕ) (x v : ℕ → ℤ) → BoundsGrowth d alpha → HasNarrowCosts d width →
    ((i : ℕ) → i < d.states → unsigned_abs (x i) ≤ z) → ((j : ℕ) → j < entries d → unsigned_abs (v j) ≤ z) →
    (c : ℕ) → c < counts d → unsigned_abs (counted d (cost_run d x v) c) ≤ width * (z * alpha ^ d.stages)

-- the condensed costs are weighted sums over the counted rows of products of responses
pub record IsGram (d : Design) : Type 0 where
  pub hessian : (i j : ℕ) → 1 ≤ d.inputs → (condensed_of d).hessian i j ≡
      total (counts d) (counted d (λ k r. pos 2 *ℤ (r.weight *ℤ (cost_run d none (unit i) k r *ℤ cost_run d none (unit j) k r)))) +ℤ
      total d.stages (λ k. total d.inputs (λ l. pos 2 *ℤ (d.input_weight l *ℤ (own_input d k l i *ℤ own_input d k l j))))
  pub linear : (j i : ℕ) → 1 ≤ d.inputs → (condensed_of d).linear j i ≡
      total (counts d) (counted d (λ k r. pos 2 *ℤ (r.weight *ℤ (cost_run d none (unit j) k r *ℤ cost_run d (unit i) none k r))))
  pub constant : (j : ℕ) → 1 ≤ d.inputs → (condensed_of d).constant j ≡
      total (counts d) (counted d (λ k r. neg_ℤ (pos 2 *ℤ (r.weight *ℤ (cost_run d none (unit j) k r *ℤ cost_target d k r)))))

abbrev pub GramLaw : Type 0
GramLaw = (d : Design) → IsGram d

-- ---- all condensed numbers
-- they are those of the design, as far as the sizes go
pub record Agrees (d : Design) (k : Condensed) : Type 0 where
  pub hessian : (i j : ℕ) → i < entries d → j < entries d → k.hessian i j ≡ (condensed_of d).hessian i j
  pub linear : (j i : ℕ) → j < entries d → i < d.states → k.linear j i ≡ (condensed_of d).linear j i
  pub constant : (j : ℕ) → j < entries d → k.constant j ≡ (condensed_of d).constant j
  pub limits : AreResponses d k.by_plan k.by_state k.bound

abbrev pub AgreesLaw : Type 0
AgreesLaw = (d : Design) (k : Condensed) → 1 ≤ d.inputs → Agrees d k → IsCondensed d k
