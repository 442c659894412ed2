-- The quantity `stay`, which bounds each number that a face is tested with.
use Rattle.std.specs.Prelude.{ℕ, ◌+◌, ◌*◌, ◌^◌, ℤ, unsigned_abs}
use Rattle.integer_algebra.specs.Sizes.{amount}
use Rattle.qp_model.specs.problem.Design.{Design}
use Rattle.qp_model.specs.form.Quantities.{greatest}
use Rattle.qp_model.specs.bounds.CornerSizes.{box_magnitude}
use Rattle.stay_check.specs.FirstRows.{first_row_count, first_row}
use Rattle.stay_check.specs.FaceForms.{Face, FaceNumbers, face_of, reach_over}
use Rattle.stay_check.specs.Columns.{plant_at, coefficient}
use Rattle.stay_check.specs.declared.rows.Column.{Column}
use Rattle.stay_check.specs.declared.rows.Column.TheVariants.{State, Input}

-- what the coordinate of a face and the first rows, each times its weight, have of a column
abbrev pub weighted_rows_size : Design → Face → Column → ℕ
weighted_rows_size d f x = amount (first_row_count d) (λ r. unsigned_abs (f.weight r) * unsigned_abs (coefficient (first_row d r) x))

abbrev pub coefficient_size : Design → Face → Column → ℕ
coefficient_size d f x = f.factor * unsigned_abs (plant_at d f.coordinate x) + weighted_rows_size d f x

-- what the rows leave
abbrev pub left_term : Design → (excess : ℕ → ℤ) → Face → ℕ → ℕ
left_term d excess f r =
    unsigned_abs (f.weight r) * (2 ^ 40 * unsigned_abs (first_row d r).bound + d.limit_denominator * unsigned_abs (excess (first_row d r).row))

abbrev pub left_size : Design → (excess : ℕ → ℤ) → Face → ℕ
left_size d excess f = amount (first_row_count d) (left_term d excess f)

-- what the coordinate has of the states beside the rows, over the box
abbrev pub rest_size : Design → Face → ℕ
rest_size d f = 2 ^ 40 * box_magnitude d * amount d.states (λ j. coefficient_size d f (State j))

-- the reach
abbrev pub reach_size : Design → (excess : ℕ → ℤ) → Face → ℕ
reach_size d excess f = rest_size d f + 2 ^ d.grid * d.plant_denominator * left_size d excess f

-- all of a face
abbrev pub face_size : Design → (excess : ℕ → ℤ) → Face → ℕ
face_size d excess f = 2 * reach_size d excess f + amount d.inputs (λ l. coefficient_size d f (Input l)) + 2 * reach_over d f

-- the greatest of all faces: `stay`
abbrev pub stay_size : Design → (excess : ℕ → ℤ) → FaceNumbers → ℕ
stay_size d excess faces = greatest (2 * d.states) (λ e. face_size d excess (face_of faces e))
