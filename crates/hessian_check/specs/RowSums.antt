-- The products of the columns of a form's rows, each as often as its row counts, as code holds them.
use Rattle.std.specs.Prelude.{◌≡◌, ℕ, ◌+◌, ◌*◌, ◌<◌, ◌≤◌, ◌^◌, Bool, true, false, ℤ, pos, unsigned_abs, length, nat_lt, if◌then◌else◌}
use Rattle.integer_algebra.specs.Sizes.{amount, size}
use Rattle.frac_scaled.specs.Enclosures.{Enclosure, divided, multiple, sum_of, whole_product}
use Rattle.mat_int.specs.Matrix.{Matrix, entry_of}
use Rattle.mat_int.specs.Enclosures.{enclosure_at, gram_sum, HasEnclosures}
use Rattle.condensed_form.specs.declared.condensed.Condensed.{Condensed}
use Rattle.qp_model.specs.form.Form.{farthest}
use Rattle.hessian_check.specs.Curvature.{raised_diagonal}

-- before they are rounded, over the square of what the rows are over
abbrev pub AreRowSums : Condensed → (weight : ℕ → ℕ) → (mid rad : Matrix) → Type 0
AreRowSums c weight = HasEnclosures c.g.cols c.g.cols (gram_sum (length c.g.rows) (λ l. pos (weight l)) (enclosure_at c.g c.g_rad))

-- the first i rows count once, and no other does
abbrev pub first_rows : (i : ℕ) → ℕ → ℕ
first_rows i l = if nat_lt l i then 1 else 0

-- ---- one row that counts more often
-- the greatest absolute value that an entry can have
abbrev pub far_entry : (mid rad : Matrix) → ℕ → ℕ → ℕ
far_entry mid rad i j = farthest (entry_of mid i j) (unsigned_abs (entry_of rad i j))

-- a sum with the product of two entries of the row, so many times
abbrev pub more_sum : (mid rad : Matrix) → (row : ℕ → Enclosure) → (count : ℕ) → ℕ → ℕ → Enclosure
more_sum mid rad row count i j = sum_of (enclosure_at mid rad i j) (whole_product (multiple (pos count) (row i)) (row j))

-- square sums, and row i of a matrix with their columns, whose products leave room beside them
pub record HasRoomFor (sum_mid sum_rad mid rad : Matrix) (i count : ℕ) : Type 0 where
  pub rows : length sum_mid.rows ≡ mid.cols
  pub cols : sum_mid.cols ≡ mid.cols
  pub inside : i < length mid.rows
  pub multiples : (j : ℕ) → j < mid.cols → count * far_entry mid rad i j < 2 ^ 127
  pub sums : (j l : ℕ) → j < mid.cols → l < mid.cols → far_entry sum_mid sum_rad j l + count * far_entry mid rad i j * far_entry mid rad i l < 2 ^ 127

-- ---- the matrix that is made of them
-- the sums of each row leave room
abbrev pub HaveSumRoom : (mid rad : Matrix) → Type 0
HaveSumRoom mid rad = (i : ℕ) → i < length mid.rows → amount (length mid.rows) (far_entry mid rad i) ≤ 2 ^ 126

-- one of them, over 2^40
abbrev pub rounded_sum : (mid rad : Matrix) → ℕ → ℕ → Enclosure
rounded_sum mid rad i j = divided (enclosure_at mid rad i j) (2 ^ 40)

-- by class: the sums, or their midpoints over 2^40, with each on the diagonal raised by the radii of its row
abbrev pub sums_matrix : (fine : Bool) → (mid rad : Matrix) → ℕ → ℕ → ℤ
sums_matrix true mid rad = raised_diagonal (λ i j. (rounded_sum mid rad i j).mid) (λ i. size (length mid.rows) (λ j. (rounded_sum mid rad i j).rad))
sums_matrix false mid rad = entry_of mid
