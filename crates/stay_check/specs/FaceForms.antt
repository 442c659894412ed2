-- A face of the box as a sum of first rows, and how far a plan can go towards it.
use Rattle.std.specs.Prelude.{◌≡◌, ℕ, ◌*◌, ◌/◌, ◌%◌, ◌^◌, ◌<◌, ◌==◌, Bool, true, false, if◌then◌else◌, ℤ, pos, neg_ℤ, ◌+ℤ◌, ◌-ℤ◌, ◌*ℤ◌, ◌≤ℤ◌, ◌<ℤ◌, List, length, All, unsigned_abs}
use Rattle.std.specs.Int.{int_max}
use Rattle.integer_algebra.specs.Sums.{total, at}
use Rattle.integer_algebra.specs.Division.{round_of}
use Rattle.mat_int.specs.Matrix.{Matrix, entry_of}
use Rattle.qp_model.specs.problem.Design.{Design}
use Rattle.qp_model.specs.problem.Range.{IsPositive}
use Rattle.stay_check.specs.FirstRows.{first_row_count, first_row}
use Rattle.stay_check.specs.declared.faces.Faces.{Faces}

-- which coordinate, from 0, and whether its upper face; the factor of the coordinate and a weight for each first row
pub record Face : Type 0 where
  pub coordinate : ℕ
  pub upper : Bool
  pub factor : ℕ
  pub weight : ℕ → ℤ

-- ---- all faces: for each coordinate the upper one, then the lower
pub record FaceNumbers : Type 0 where
  pub factors : List ℤ
  pub weights : Matrix

abbrev pub faces_of : Faces → FaceNumbers
faces_of f = record { factors = f.kappa.items; weights = f.weights }

-- face e, from 0
abbrev pub face_of : FaceNumbers → ℕ → Face
face_of f e = record { coordinate = e / 2; upper = e % 2 == 0; factor = unsigned_abs (at f.factors e); weight = entry_of f.weights e }

-- 0 .. 2^31 - 1
pub record IsWeight (z : ℤ) : Type 0 where
  pub low : pos 0 ≤ℤ z
  pub high : z <ℤ pos (2 ^ 31)

-- faces for this design's sizes
pub record AreFacesFor (d : Design) (f : FaceNumbers) : Type 0 where
  pub count : length f.factors ≡ 2 * d.states
  pub factors : All IsPositive f.factors
  pub rows : length f.weights.rows ≡ 2 * d.states
  pub cols : f.weights.cols ≡ first_row_count d
  pub weights : (e r : ℕ) → e < 2 * d.states → r < first_row_count d → IsWeight (entry_of f.weights e r)

-- ---- what a face is made of
-- z towards the face
abbrev pub towards : Face → ℤ → ℤ
towards f z = if f.upper then z else neg_ℤ z

-- the sum of g over the first rows, each times its weight
abbrev pub weighted : Design → Face → (ℕ → ℤ) → ℤ
weighted d f g = total (first_row_count d) (λ r. f.weight r *ℤ g r)

-- of input l the rows have as much as the coordinate has
abbrev pub input_of_rows : Design → Face → ℕ → ℤ
input_of_rows d f l = weighted d f (λ r. (first_row d r).of_input l)

abbrev pub input_of_coordinate : Design → Face → ℕ → ℤ
input_of_coordinate d f l = towards f (pos f.factor *ℤ d.plant_b f.coordinate l)

abbrev pub HasEqualInputs : Design → Face → Type 0
HasEqualInputs d f = (l : ℕ) → l < d.inputs → input_of_rows d f l ≡ input_of_coordinate d f l

-- what the coordinate has of state j beside the rows
abbrev pub state_rest : Design → Face → ℕ → ℤ
state_rest d f j = towards f (pos f.factor *ℤ d.plant_a f.coordinate j) -ℤ weighted d f (λ r. (first_row d r).of_state j)

-- and at most, over the box
abbrev pub rest_over_box : Design → Face → ℕ → ℤ
rest_over_box d f j = int_max (state_rest d f j *ℤ d.low j) (state_rest d f j *ℤ d.high j)

-- of all states
abbrev pub greatest_rest : Design → Face → ℤ
greatest_rest d f = total d.states (rest_over_box d f)

-- what a row leaves, times its weight, where each is exceeded by at most its number of excess over 2^40
abbrev pub row_left : Design → (excess : ℕ → ℤ) → Face → ℕ → ℤ
row_left d excess f r = f.weight r *ℤ (pos (2 ^ 40) *ℤ (first_row d r).bound +ℤ pos d.limit_denominator *ℤ excess (first_row d r).row)

-- and all of them
abbrev pub left_by_rows : Design → (excess : ℕ → ℤ) → Face → ℤ
left_by_rows d excess f = total (first_row_count d) (row_left d excess f)

-- both: how far towards the face the coordinate of the next state can go, as a numerator over `reach_over`
abbrev pub face_reach : Design → (excess : ℕ → ℤ) → Face → ℤ
face_reach d excess f = pos (2 ^ 40) *ℤ greatest_rest d f +ℤ pos (2 ^ d.grid * d.plant_denominator) *ℤ left_by_rows d excess f

abbrev pub reach_over : Design → Face → ℕ
reach_over d f = f.factor * d.plant_denominator * 2 ^ 40

-- ---- where the coordinate of the next grid state is at the farthest, with shifts between low and high added
abbrev pub farthest_next : Design → (excess low high : ℕ → ℤ) → Face → ℤ
farthest_next d excess low high f =
    round_of (towards f (face_reach d excess f)) (reach_over d f) +ℤ (if f.upper then high f.coordinate else low f.coordinate)

-- a number is not beyond the upper face, or the lower
abbrev pub IsOnSide : Bool → (low high z : ℤ) → Type 0
IsOnSide true low high z = z ≤ℤ high
IsOnSide false low high z = low ≤ℤ z

-- the face holds: the next grid state is not beyond it
pub record FaceHolds (d : Design) (excess low high : ℕ → ℤ) (f : Face) : Type 0 where
  pub inputs : HasEqualInputs d f
  pub inside : IsOnSide f.upper (d.low f.coordinate) (d.high f.coordinate) (farthest_next d excess low high f)
