-- What the readers of the five tables find: the numbers of the values, which have a design's shapes and lie in its ranges.
use Rattle.std.specs.Prelude.{◌≡◌, ℕ, ◌+◌, ◌≤◌, ◌<◌, ℤ, pos, ◌≤ℤ◌, List, length, All, Option, Some}
use Rattle.integer_algebra.specs.Sums.{at}
use Rattle.mat_int.specs.Matrix.{Matrix, entry_of}
use Rattle.toml.specs.Data.{Data}
use Rattle.qp_model.specs.problem.Limits.{text_version, last_version, most_states, most_inputs, most_stages}
use Rattle.qp_model.specs.problem.Range.{LiesIn, IsDenominator, IsPositive}
use Rattle.qp_model.specs.problem.Parts.{IsTable, IsNumeratorList}
use Rattle.design_files.specs.Numbers.{number_in, list_in, IsMatrix}
use Rattle.design_files.specs.Values.{Values}
use Rattle.design_files.specs.declared.places.Sizes.{Sizes}
use Rattle.design_files.specs.declared.places.PlantNumbers.{PlantNumbers}
use Rattle.design_files.specs.declared.places.CostNumbers.{CostNumbers}
use Rattle.design_files.specs.declared.places.LimitNumbers.{LimitNumbers}
use Rattle.design_files.specs.declared.places.BoxNumbers.{BoxNumbers}
use Rattle.design_files.specs.declared.places.TargetNumbers.{TargetNumbers}
use Rattle.design_files.specs.declared.places.FirstNumbers.{FirstNumbers}
use Rattle.design_files.specs.declared.places.LastNumbers.{LastNumbers}

pub record HasCount (value : Option Data) (low high n : ℕ) : Type 0 where
  pub number : number_in value ≡ Some (pos n)
  pub fits : LiesIn low high n

pub record HasDenominator (value : Option Data) (z : ℤ) : Type 0 where
  pub number : number_in value ≡ Some z
  pub fits : IsDenominator z

pub record HasPositive (value : Option Data) (z : ℤ) : Type 0 where
  pub number : number_in value ≡ Some z
  pub fits : IsPositive z

pub record HasTable (value : Option Data) (low high width : ℕ) (m : Matrix) : Type 0 where
  pub numbers : IsMatrix value m
  pub fits : IsTable m low high width

pub record HasCosts (value : Option Data) (n : ℕ) (m : Matrix) : Type 0 where
  pub numbers : IsMatrix value m
  pub fits : IsTable m 0 12 (n + 2)
  pub weights : (r : ℕ) → r < length m.rows → pos 0 ≤ℤ entry_of m r (n + 1)

pub record HasInputs (value : Option Data) (p : ℕ) (zs : List ℤ) : Type 0 where
  pub numbers : list_in value ≡ Some zs
  pub long : length zs ≡ p
  pub fits : All IsPositive zs

pub record HasLine (value : Option Data) (n : ℕ) (zs : List ℤ) : Type 0 where
  pub numbers : list_in value ≡ Some zs
  pub fits : IsNumeratorList zs n

-- ---- table by table, for n states and p inputs
pub record HasSizeNumbers (v : Values) (s : Sizes) : Type 0 where
  pub version : HasCount v.version text_version last_version s.version
  pub states : HasCount v.states 1 (most_states s.version) s.states
  pub inputs : HasCount v.inputs 1 (most_inputs s.version) s.inputs
  pub stages : HasCount v.stages 1 (most_stages s.version) s.stages

pub record HasPlant (v : Values) (n p : ℕ) (q : PlantNumbers) : Type 0 where
  pub den : HasDenominator v.plant_den q.den
  pub a : HasTable v.a n n n q.a
  pub b : HasTable v.b n n p q.b

pub record HasCostNumbers (v : Values) (n p : ℕ) (q : CostNumbers) : Type 0 where
  pub den : HasDenominator v.cost_den q.den
  pub row_den : HasDenominator v.row_den q.row_den
  pub input : HasInputs v.input p q.input.items
  pub stage : HasCosts v.stage_cost n q.stage
  pub final_ : HasCosts v.final_cost n q.final_

pub record HasLimits (v : Values) (n p : ℕ) (q : LimitNumbers) : Type 0 where
  pub den : HasDenominator v.limit_den q.den
  pub stage : HasTable v.stage_rows 0 12 (n + p + 1) q.stage
  pub final_ : HasTable v.final_rows 0 12 (n + 1) q.final_
  pub some_row : 1 ≤ length q.stage.rows + length q.final_.rows

pub record HasBox (v : Values) (n : ℕ) (q : BoxNumbers) : Type 0 where
  pub grid : HasCount v.grid 0 24 q.grid
  pub lo : HasLine v.lo n q.lo.items
  pub hi : HasLine v.hi n q.hi.items
  pub box : (i : ℕ) → i < n → at q.lo.items i ≤ℤ at q.hi.items i

pub record HasTargets (v : Values) (q : TargetNumbers) : Type 0 where
  pub den : HasDenominator v.target_den q.den
  pub violation : HasPositive v.violation q.violation
  pub gap : HasPositive v.gap q.gap

-- ---- the tables up to the cost, and those from the limits on
pub record HasFirst (v : Values) (q : FirstNumbers) : Type 0 where
  pub sizes : HasSizeNumbers v q.sizes
  pub plant : HasPlant v q.sizes.states q.sizes.inputs q.plant
  pub cost : HasCostNumbers v q.sizes.states q.sizes.inputs q.cost

pub record HasLast (v : Values) (n p : ℕ) (q : LastNumbers) : Type 0 where
  pub limits : HasLimits v n p q.limits
  pub bounds : HasBox v n q.bounds
  pub targets : HasTargets v q.targets
