-- The exponents of a design's step.
use Rattle.std.specs.Prelude.{ℕ, ◌-◌, ◌*◌, ◌/◌, ◌^◌, ◌<◌, ◌≤◌, Bool, true, false, ℤ, pos, unsigned_abs}
use Rattle.integer_algebra.specs.Division.{floor_of}
use Rattle.frac_scaled.specs.Enclosures.{Enclosure}
use Rattle.mat_int.specs.Enclosures.{weighted_gram}
use Rattle.qp_model.specs.form.Class.{CoversSquares}
use Rattle.qp_model.specs.problem.Design.{Design, entries, rows}
use Rattle.qp_model.specs.form.Condensing.{condensed_of}
use Rattle.qp_model.specs.form.FineForm.{fine_form}
use Rattle.qp_model.specs.form.FineSizes.{is_fine}
use Rattle.qp_model.specs.form.Form.{Form}
use Rattle.qp_model.specs.form.Quantities.{input_floor}
use Rattle.qp_model.specs.declared.design_parts.DesignParts.{DesignParts}
use Rattle.qp_model.specs.problem.Parts.{design_of}
use Rattle.condensed_form.specs.declared.condensed.Condensed.{Condensed}
use Rattle.condensed_form.specs.Form.{IsFormOf}
use Rattle.hessian_check.specs.Curvature.{Curved, HeldMatrices, held_exactly, exponent_matrix, IsFirst, IsChosen}

-- half a matrix of even entries
abbrev pub half_of : (ℕ → ℕ → ℤ) → ℕ → ℕ → ℤ
half_of a i j = floor_of (a i j) 2

-- half the condensed hessian, which is even, the condensed rows with their weights, and the denominators
abbrev pub weighted_of : Design → (ℕ → ℕ) → Curved
weighted_of d weight = record {
  entries = entries d;
  count = rows d;
  half = half_of (condensed_of d).hessian;
  row = (condensed_of d).by_plan;
  weight = weight;
  limit_den = pos d.limit_denominator;
  weight_den = pos d.cost_denominator;
  cost_row_den = pos d.row_denominator;
}

-- one exponent for all rows
abbrev pub curved_of : Design → Curved
curved_of d = weighted_of d (λ l. 1)

-- an exponent for each row, up to `most`
abbrev pub curved_by : Design → (ℕ → ℕ) → ℕ → Curved
curved_by d s most = weighted_of d (λ l. 2 ^ (most - s l))

-- ---- the matrices as they are held
-- a number that a row of a form has of an entry of the plan, with its radius
abbrev pub row_enclosure : Form → ℕ → ℕ → Enclosure
row_enclosure h l i = record { mid = h.numbers.by_plan l i; rad = pos (h.plan_radius l i) }

-- the products of columns i and j of the rows, each as often as its row counts, rounded once
abbrev pub row_products : Form → (weight : ℕ → ℕ) → ℕ → ℕ → Enclosure
row_products h weight = weighted_gram h.rows (λ l. pos (weight l)) (row_enclosure h)

-- those of a form whose numbers are over 2^40; its hessian and the radii of that are even
abbrev pub held_rounded : Form → (weight : ℕ → ℕ) → HeldMatrices
held_rounded h weight = record {
  half = half_of h.numbers.hessian;
  half_radius = λ i j. h.hessian_radius i j / 2;
  products = λ i j. (row_products h weight i j).mid;
  products_radius = λ i j. unsigned_abs (row_products h weight i j).rad;
}

-- by class: the exact matrices, or those of the enclosures
abbrev pub held_by : (fine : Bool) → Design → (weight : ℕ → ℕ) → HeldMatrices
held_by true d weight = held_rounded (fine_form d) weight
held_by false d weight = held_exactly (weighted_of d weight)

-- where each row counts once
abbrev pub held_in : (fine : Bool) → Design → HeldMatrices
held_in fine d = held_by fine d (λ l. 1)

-- the matrix of s, made of them
abbrev pub step_matrix_in : (fine : Bool) → Design → ℕ → ℕ → ℕ → ℤ
step_matrix_in fine d = exponent_matrix (curved_of d) (held_in fine d)

-- of the design's own class
abbrev pub step_matrix : Design → ℕ → ℕ → ℕ → ℤ
step_matrix d = step_matrix_in (is_fine d) d

-- that of an exponent for each row
abbrev pub rows_matrix_in : (fine : Bool) → Design → (ℕ → ℕ) → ℕ → ℕ → ℕ → ℤ
rows_matrix_in fine d s most = exponent_matrix (curved_by d s most) (held_by fine d (λ l. 2 ^ (most - s l))) most

-- of the design's own class
abbrev pub rows_matrix : Design → (ℕ → ℕ) → ℕ → ℕ → ℕ → ℤ
rows_matrix d = rows_matrix_in (is_fine d) d

-- the least input weight, over what the squares of the condensed rows are over
abbrev pub floor_of_design : Design → ℤ
floor_of_design d = pos (input_floor d * (d.plant_denominator ^ d.stages) ^ 2)

-- s1: the lesser of the least number that covers the squares of the rows and the least number up to 40 whose matrix is dominant
abbrev pub IsPlainExponent : Design → ℕ → Type 0
IsPlainExponent d s1 = IsFirst (entries d) (step_matrix d) (CoversSquares d) s1

-- s: the least number below s1 whose matrix has a root that the test passes, or s1
abbrev pub IsStepExponent : Design → ℕ → ℕ → Type 0
IsStepExponent d s1 s = IsChosen (entries d) (step_matrix d) s1 s

-- s is the step exponent of the design: the least number whose certificate the recipe finds, or the plain exponent, which is at most 40
pub record IsExponentOf (d : Design) (s : ℕ) : Type 0 where
  pub plain : ℕ
  pub is_plain : IsPlainExponent d plain
  pub limit : plain ≤ 40
  pub is_step : IsStepExponent d plain s

-- s1 is above 40
pub record HasNoStep (d : Design) : Type 0 where
  pub s1 : ℕ
  pub plain : IsPlainExponent d s1
  pub above : 40 < s1

-- what holds of each design that the numbers are the condensed form of
abbrev pub OfDesign : Condensed → (Design → Type 0) → Type 0
OfDesign c p = (parts : DesignParts) → IsFormOf parts c → p (design_of parts)
