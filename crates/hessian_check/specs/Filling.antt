-- Square matrices that are filled row by row.
use Rattle.std.specs.Prelude.{◌≡◌, ℕ, ◌<◌, ◌≤◌, ℤ, All, length}
use Rattle.frac_scaled.specs.Enclosures.{Enclosure}
use Rattle.mat_int.specs.Matrix.{Matrix, entry_of}

-- m is square, and its first i rows have these entries
pub record HasFirstRows (n : ℕ) (entry : ℕ → ℕ → ℤ) (m : Matrix) (i : ℕ) : Type 0 where
  pub rows : length m.rows ≡ n
  pub cols : m.cols ≡ n
  pub even : All (λ row. length row ≡ n) m.rows
  pub made : (k j : ℕ) → k < i → j < n → entry_of m k j ≡ entry k j

-- and the first j entries of the next row
pub record HasFirstEntries (n : ℕ) (entry : ℕ → ℕ → ℤ) (m : Matrix) (i j : ℕ) : Type 0 where
  pub before : HasFirstRows n entry m i
  pub here : (k : ℕ) → k < j → entry_of m i k ≡ entry i k

-- and its further rows are as they were
pub record HasFirstMoved (n : ℕ) (entry old : ℕ → ℕ → ℤ) (m : Matrix) (i : ℕ) : Type 0 where
  pub first : HasFirstRows n entry m i
  pub rest : (k j : ℕ) → i ≤ k → k < n → j < n → entry_of m k j ≡ old k j

-- ---- matrices of enclosures, as their midpoints and radii
pub record HasFirstEnclosures (n : ℕ) (entry : ℕ → ℕ → Enclosure) (mid rad : Matrix) (i : ℕ) : Type 0 where
  pub mids : HasFirstRows n (λ k j. (entry k j).mid) mid i
  pub rads : HasFirstRows n (λ k j. (entry k j).rad) rad i

pub record HasPartEnclosures (n : ℕ) (entry : ℕ → ℕ → Enclosure) (mid rad : Matrix) (i j : ℕ) : Type 0 where
  pub mids : HasFirstEntries n (λ k j. (entry k j).mid) mid i j
  pub rads : HasFirstEntries n (λ k j. (entry k j).rad) rad i j
