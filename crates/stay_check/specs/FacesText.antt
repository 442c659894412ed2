-- A faces text: for each coordinate a record of its upper face, then one of its lower, of a factor and a weight for each first row.
use Rattle.std.specs.Prelude.{◌≡◌, ◌≢◌, ◌⊎◌, ℕ, ◌+◌, ◌*◌, ◌<◌, List, ◌∷◌, length}
use Rattle.integer_algebra.specs.Sums.{at}
use Rattle.mat_int.specs.Matrix.{row_of}
use Rattle.number_text.specs.declared.text_fault.TextFault.{TextFault}
use Rattle.number_text.specs.declared.text_fault.TextFault.TheVariants.{Count}
use Rattle.qp_model.specs.problem.Design.{Design}
use Rattle.policy_file.specs.Records.{HoldsNumbers, HoldUpTo, IsRecordsFault, records_of, record_at}
use Rattle.policy_file.specs.FaceRule.{face_rule}
use Rattle.stay_check.specs.FirstRows.{first_row_count}
use Rattle.stay_check.specs.FaceForms.{FaceNumbers}

-- the fields of a record
abbrev pub face_length : Design → ℕ
face_length d = first_row_count d + 1

-- the bytes are the text of these faces for the design
pub record IsFacesText (bytes : List ℕ) (d : Design) (faces : FaceNumbers) : Type 0 where
  pub records : length (records_of bytes) ≡ 2 * d.states
  pub count : length faces.factors ≡ 2 * d.states
  pub rows : length faces.weights.rows ≡ 2 * d.states
  pub cols : faces.weights.cols ≡ first_row_count d
  pub each : (e : ℕ) → e < 2 * d.states →
      HoldsNumbers face_rule (face_length d) (record_at (records_of bytes) e) (at faces.factors e ∷ row_of faces.weights e)

-- each record is right, and there are so many of them, which isn't one for each face
pub record IsFaceCountFault (rows : List (List (List ℕ))) (d : Design) (fault : TextFault) : Type 0 where
  pub each : HoldUpTo face_rule (face_length d) rows (length rows)
  pub here : length rows ≢ 2 * d.states
  pub told : fault ≡ Count (length rows)

-- the bytes are no such text, and this is their first fault: that of the first record that has one, and else the count of records
abbrev pub IsFacesTextFault : List ℕ → Design → TextFault → Type 0
IsFacesTextFault bytes d fault = IsRecordsFault face_rule (face_length d) (records_of bytes) fault ⊎ IsFaceCountFault (records_of bytes) d fault
