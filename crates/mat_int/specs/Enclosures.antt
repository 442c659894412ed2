-- Sums of enclosures along lists and matrices, as functions of their indices.
use Rattle.std.specs.Prelude.{◌≡◌, ℕ, ◌<◌, ◌^◌, ℤ, pos, ◌*ℤ◌, ◌≤ℤ◌, ◌<ℤ◌, length}
use Rattle.integer_algebra.specs.Bounds.{absolute}
use Rattle.integer_algebra.specs.Sums.{total}
use Rattle.frac_scaled.specs.Enclosures.{Enclosure, magnitude, divided, whole_product}
use Rattle.mat_int.specs.Matrix.{Matrix, entry_of, HasEntries}

-- ---- c_0 x_0 + .. + c_(n - 1) x_(n - 1)
-- without rounding
abbrev pub combination : ℕ → (ℕ → ℤ) → (ℕ → Enclosure) → Enclosure
combination n c x = record {
  mid = total n (λ i. c i *ℤ (x i).mid);
  rad = total n (λ i. absolute (c i) *ℤ (x i).rad);
}

-- over den
abbrev pub combined : ℕ → (ℕ → ℤ) → (ℕ → Enclosure) → ℕ → Enclosure
combined n c x den = divided (combination n c x) den

-- the magnitudes of the terms together
abbrev pub combination_magnitude : ℕ → (ℕ → ℤ) → (ℕ → Enclosure) → ℤ
combination_magnitude n c x = total n (λ i. absolute (c i) *ℤ magnitude (x i))

-- ---- columns j and l of a matrix of n rows, multiplied row by row, each times the weight of its row
-- without rounding: midpoint and radius are over 2^80
abbrev pub gram_sum : ℕ → (ℕ → ℤ) → (ℕ → ℕ → Enclosure) → ℕ → ℕ → Enclosure
gram_sum n weight x j l = combination n weight (λ i. whole_product (x i j) (x i l))

-- over 2^40
abbrev pub weighted_gram : ℕ → (ℕ → ℤ) → (ℕ → ℕ → Enclosure) → ℕ → ℕ → Enclosure
weighted_gram n weight x j l = divided (gram_sum n weight x j l) (2 ^ 40)

-- the magnitudes of the terms together
abbrev pub gram_magnitude : ℕ → (ℕ → ℤ) → (ℕ → ℕ → Enclosure) → ℕ → ℕ → ℤ
gram_magnitude n weight x j l = total n (λ i. weight i *ℤ (magnitude (x i j) *ℤ magnitude (x i l)))

-- ---- a matrix of midpoints and one of radii
-- the enclosure in row i and column j
abbrev pub enclosure_at : Matrix → Matrix → ℕ → ℕ → Enclosure
enclosure_at mid rad i j = record { mid = entry_of mid i j; rad = entry_of rad i j }

-- they have one shape, and no radius is negative
pub record AreEnclosures (mid rad : Matrix) : Type 0 where
  pub rows : length rad.rows ≡ length mid.rows
  pub cols : rad.cols ≡ mid.cols
  pub nonnegative : (i j : ℕ) → i < length mid.rows → j < mid.cols → pos 0 ≤ℤ entry_of rad i j

-- they have this shape and these entries
pub record HasEnclosures (height width : ℕ) (entry : ℕ → ℕ → Enclosure) (mid rad : Matrix) : Type 0 where
  pub mids : HasEntries height width (λ i j. (entry i j).mid) mid
  pub rads : HasEntries height width (λ i j. (entry i j).rad) rad

-- no entry reaches further than 2^126
abbrev pub AllNear : ℕ → ℕ → (ℕ → ℕ → ℤ) → Type 0
AllNear height width far = (i j : ℕ) → i < height → j < width → far i j ≤ℤ pos (2 ^ 126)

-- some entry does
pub record SomeIsFar (height width : ℕ) (far : ℕ → ℕ → ℤ) : Type 0 where
  pub row : ℕ
  pub col : ℕ
  pub row_in : row < height
  pub col_in : col < width
  pub above : pos (2 ^ 126) <ℤ far row col
