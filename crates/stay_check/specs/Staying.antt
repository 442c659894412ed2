-- That one turn of a loop stays in the box.
use Rattle.std.specs.Prelude.{ℕ, ◌*◌, ◌<◌, ◌≤◌, ℤ, pos, ◌+ℤ◌, ◌≤ℤ◌, ◌<ℤ◌, unsigned_abs}
use Rattle.integer_algebra.specs.Division.{round_of}
use Rattle.qp_model.specs.problem.Design.{Design}
use Rattle.qp_model.specs.problem.Trajectory.{trajectory}
use Rattle.qp_model.specs.problem.Box.{IsGridState}
use Rattle.qp_model.specs.bounds.Certified.{ExceedsAtMost}
use Rattle.stay_check.specs.FirstRows.{first_row_count, first_row}
use Rattle.stay_check.specs.FaceForms.{FaceNumbers, AreFacesFor, face_of, FaceHolds}

-- the nearest grid state to the state of stage 1 of the plan u over q, a tie upward: numerators over 2^grid
abbrev pub next_grid_state : Design → ℤ → (xi u : ℕ → ℤ) → ℕ → ℤ
next_grid_state d q xi u i = round_of (trajectory d q xi u 1 i) (unsigned_abs q * d.plant_denominator)

-- the plan exceeds each first row by at most its number of excess over 2^40
abbrev pub ExceedsNoFirstRowBy : Design → (xi : ℕ → ℤ) → (q : ℤ) → (u : ℕ → ℤ) → (excess : ℕ → ℤ) → Type 0
ExceedsNoFirstRowBy d xi q u excess = (r : ℕ) → r < first_row_count d → ExceedsAtMost d xi q u (first_row d r).row (excess (first_row d r).row)

-- shifts of a state between two lists
abbrev pub AreShifts : Design → (low high shift : ℕ → ℤ) → Type 0
AreShifts d low high shift = (i : ℕ) → i < d.states → (low i ≤ℤ shift i) × (shift i ≤ℤ high i)

-- from each grid state of the box, each plan that exceeds no first row by more leads to a next grid state that lies in the box with any shift
abbrev pub KeepsInBox : Design → (excess low high : ℕ → ℤ) → Type 0
KeepsInBox d excess low high =
    (q : ℤ) (xi u shift : ℕ → ℤ) → pos 0 <ℤ q → IsGridState d xi → ExceedsNoFirstRowBy d xi q u excess → AreShifts d low high shift →
    IsGridState d (λ i. next_grid_state d q xi u i +ℤ shift i)

-- every face holds
abbrev pub FacesHold : Design → (excess low high : ℕ → ℤ) → FaceNumbers → Type 0
FacesHold d excess low high faces = (e : ℕ) → e < 2 * d.states → FaceHolds d excess low high (face_of faces e)

-- where every face holds, a turn stays in the box
abbrev pub StayLaw : Type 0
StayLaw = (d : Design) (excess low high : ℕ → ℤ) (faces : FaceNumbers) → 1 ≤ d.plant_denominator → 1 ≤ d.stages →
    AreFacesFor d faces → FacesHold d excess low high faces → KeepsInBox d excess low high
