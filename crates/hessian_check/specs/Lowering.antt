-- The rows of a design's form while their exponents are lowered one after the other.
use Rattle.std.specs.Prelude.{◌≡◌, ℕ, ◌-◌, ◌*◌, ◌<◌, ◌≤◌, ◌^◌, Bool, List, length, pos}
use Rattle.qp_model.specs.form.Class.{HasLoweringRoom}
use Rattle.qp_model.specs.problem.Design.{Design}
use Rattle.qp_model.specs.form.FineSizes.{is_fine}
use Rattle.condensed_form.specs.declared.condensed.Condensed.{Condensed}
use Rattle.enclosure.specs.declared.types.EncMat.{EncMat}
use Rattle.hessian_check.specs.declared.matrices.StepMatrices.{StepMatrices}
use Rattle.hessian_check.specs.DesignMatrices.{IsCostMatrix}
use Rattle.hessian_check.specs.RowExponents.{exponent_in, IsAcceptedAt, IsLowered, tested}
use Rattle.hessian_check.specs.RowSums.{AreRowSums}
use Rattle.hessian_check.specs.Steps.{IsExponentOf, OfDesign}

-- how often the rows count where row i is tested with the exponent e
abbrev pub tested_weight : (es : List ℕ) → (i e s : ℕ) → ℕ → ℕ
tested_weight es i e s l = 2 ^ (s - tested es i e s l)

-- the sums of the rows' products, where the rows before row i have the exponents of the list, row i has e, and the rows after it have s
abbrev pub AreTestedSums : Condensed → (es : List ℕ) → (i e s : ℕ) → EncMat → Type 0
AreTestedSums c es i e s sums = AreRowSums c (tested_weight es i e s) sums.mid sums.rad

-- the exponents of the first rows
abbrev pub AreFirstLowered : Design → (s : ℕ) → List ℕ → Type 0
AreFirstLowered d s es = (i : ℕ) → i < length es → IsLowered d s es i (exponent_in es i)

-- the exponent s is the step exponent, there is room, and each of the first rows was lowered; one is left
pub record IsReadyToLower (c : Condensed) (s : ℕ) (es : List ℕ) : Type 0 where
  pub chosen : OfDesign c (λ d. IsExponentOf d s)
  pub room : OfDesign c (λ d. HasLoweringRoom (is_fine d) d)
  pub before : OfDesign c (λ d. AreFirstLowered d s es)
  pub left : length es < length c.g.rows

-- sums of a list that is to be tested, in which the row after those that were lowered has an exponent of its own
pub record AreSumsToTest (c : Condensed) (s : ℕ) (m : EncMat) : Type 0 where
  pub before : List ℕ
  pub exponent : ℕ
  pub ready : IsReadyToLower c s before
  pub low : s - 4 ≤ exponent
  pub sums : AreTestedSums c before (length before) exponent s m

-- matrices of a design's cost, and factors
pub record HasCostMatrix (fine : Bool) (d : Design) (g : StepMatrices) : Type 0 where
  pub cost : IsCostMatrix fine d g.cost
  pub cost_factor : g.cost_factor ≡ pos (d.limit_denominator * d.limit_denominator)
  pub row_factor : g.row_factor ≡ pos (d.cost_denominator * (d.row_denominator * d.row_denominator))

-- row `length es` was lowered from s by k so far, each time accepted, and the rows count by that
pub record IsLoweredSo (c : Condensed) (s : ℕ) (es : List ℕ) (k : ℕ) (g : StepMatrices) (m : EncMat) : Type 0 where
  pub cost : OfDesign c (λ d. HasCostMatrix (is_fine d) d g)
  pub accepted : OfDesign c (λ d. (e : ℕ) → s - k ≤ e → e < s → IsAcceptedAt d es (length es) e s)
  pub sums : AreTestedSums c es (length es) (s - k) s m

-- the first k rows were lowered in their order, and the rows count by that
pub record HasLoweredRows (c : Condensed) (s : ℕ) (es : List ℕ) (k : ℕ) (g : StepMatrices) (m : EncMat) : Type 0 where
  pub long : length es ≡ k
  pub cost : OfDesign c (λ d. HasCostMatrix (is_fine d) d g)
  pub each : OfDesign c (λ d. AreFirstLowered d s es)
  pub sums : AreTestedSums c es (length es) s s m
