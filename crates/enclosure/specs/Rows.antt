-- Rows of a matrix of enclosures.
use Rattle.std.specs.Prelude.{◌≡◌, ℕ, ◌<◌, ◌^◌, ℤ, pos, ◌<ℤ◌, length, All}
use Rattle.frac_scaled.specs.Enclosures.{Enclosure}
use Rattle.mat_int.specs.Matrix.{Matrix, entry_of}

-- a square matrix has these entries in its first rows, and in the next one as far as some column
pub record HasBegun (row col width : ℕ) (entry : ℕ → ℕ → ℤ) (m : Matrix) : Type 0 where
  pub rows : length m.rows ≡ width
  pub cols : m.cols ≡ width
  pub even : All (λ row. length row ≡ width) m.rows
  pub entries : (i j : ℕ) → i < row → j < width → entry_of m i j ≡ entry i j
  pub next : (j : ℕ) → j < col → entry_of m row j ≡ entry row j

-- a square matrix of enclosures does
pub record AreBegun (row col width : ℕ) (entry : ℕ → ℕ → Enclosure) (mid rad : Matrix) : Type 0 where
  pub mids : HasBegun row col width (λ i j. (entry i j).mid) mid
  pub rads : HasBegun row col width (λ i j. (entry i j).rad) rad

-- some entry of a row reaches further than 2^126
pub record IsFarInRow (width : ℕ) (far : ℕ → ℤ) : Type 0 where
  pub col : ℕ
  pub inside : col < width
  pub above : pos (2 ^ 126) <ℤ far col
