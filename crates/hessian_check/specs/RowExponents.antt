-- The step exponents of a design's rows.
use Rattle.std.specs.Prelude.{◌≡◌, ◌≢◌, ◌⊎◌, ℕ, ◌-◌, ◌≤◌, ◌<◌, List, length, replicate, slice_index_or, nat_lt, ◌==◌, if◌then◌else◌}
use Rattle.qp_model.specs.declared.design_parts.DesignParts.{DesignParts}
use Rattle.qp_model.specs.form.Class.{form_of, HasLoweringRoom}
use Rattle.qp_model.specs.form.Curvature.{AreExponents}
use Rattle.qp_model.specs.problem.Design.{Design, entries, rows}
use Rattle.qp_model.specs.form.FineSizes.{is_fine}
use Rattle.qp_model.specs.form.Form.{IsFormFor}
use Rattle.qp_model.specs.problem.Limits.{text_version}
use Rattle.qp_model.specs.problem.Parts.{IsDesign, design_of}
use Rattle.hessian_check.specs.Curvature.{IsAccepted}
use Rattle.hessian_check.specs.Steps.{IsPlainExponent, IsStepExponent, rows_matrix}

-- the exponent of row i of a list
abbrev pub exponent_in : List ℕ → ℕ → ℕ
exponent_in es i = slice_index_or es i 0

-- the exponents that are tested for row i: the rows before it have those of the list, it has e, and the rows after it have s
abbrev pub tested : (es : List ℕ) → (i e s : ℕ) → ℕ → ℕ
tested es i e s l = if nat_lt l i then exponent_in es l else if l == i then e else s

-- their matrix is dominant, or has a root that the test passes
abbrev pub IsAcceptedAt : Design → (es : List ℕ) → (i e s : ℕ) → Type 0
IsAcceptedAt d es i e s = IsAccepted (entries d) (rows_matrix d (tested es i e s) s)

-- row i has e: it was lowered from s by 1 as long as this was accepted, at most 4 times and not below 0
pub record IsLowered (d : Design) (s : ℕ) (es : List ℕ) (i e : ℕ) : Type 0 where
  pub low : s - 4 ≤ e
  pub high : e ≤ s
  pub accepted : (k : ℕ) → e ≤ k → k < s → IsAcceptedAt d es i k s
  pub last : (e ≡ s - 4) ⊎ ¬ IsAcceptedAt d es i (e - 1) s

-- an exponent for each row: the rows were lowered in their order
pub record AreLowered (d : Design) (s : ℕ) (es : List ℕ) : Type 0 where
  pub long : length es ≡ rows d
  pub each : (i : ℕ) → i < rows d → IsLowered d s es i (exponent_in es i)

-- where there is room for what the rows then count, and s for each row where there is none
abbrev pub AreRowExponents : Design → ℕ → List ℕ → Type 0
AreRowExponents d s es =
    (HasLoweringRoom (is_fine d) d × AreLowered d s es) ⊎ (¬ HasLoweringRoom (is_fine d) d × (es ≡ replicate (rows d) s))

-- by the design's version: s for each row in version 1
pub record AreExponentsOf (d : Design) (s : ℕ) (es : List ℕ) : Type 0 where
  pub first : d.version ≡ text_version → es ≡ replicate (rows d) s
  pub second : d.version ≢ text_version → AreRowExponents d s es

-- ---- laws
-- they are curvature exponents, where s is the step exponent and a controller may be made of the form
abbrev pub RowExponentLaw : Type 0
RowExponentLaw = (parts : DesignParts) → IsDesign parts → IsFormFor (design_of parts) (form_of (design_of parts)) →
    (s1 s : ℕ) → IsPlainExponent (design_of parts) s1 → IsStepExponent (design_of parts) s1 s →
    (es : List ℕ) → AreExponentsOf (design_of parts) s es → AreExponents (design_of parts) (exponent_in es) s

-- and there are no others
abbrev pub OneListLaw : Type 0
OneListLaw = (d : Design) (s : ℕ) (es other : List ℕ) → AreExponentsOf d s es → AreExponentsOf d s other → es ≡ other
