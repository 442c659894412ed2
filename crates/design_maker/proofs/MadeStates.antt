-- The states text is read as the corners of the box.
use Rattle.std.proofs.Common.{◌≡◌, ℕ, zero, suc, ◌<◌, ℤ, pos, neg_ℤ, ◌≤ℤ◌, List, [], ◌∷◌, codes, refl, arith}
use Rattle.std.specs.Fmt.{digits}
use Rattle.csv.proofs.OnLiterals.{csv_on_literals}
use Rattle.integer_algebra.specs.Sums.{at}
use Rattle.mat_int.specs.Matrix.{row_of}
use Rattle.policy_file.specs.NumberField.{IsNumberField}
use Rattle.policy_file.specs.Records.{HoldsNumbers, records_of, record_at, field_of}
use Rattle.policy_file.specs.StatesText.{IsStatesText, state_rule}
use Rattle.design_maker.specs.Texts.{states_text}
use Rattle.design_maker.specs.MadeParts.{corner_matrix}
use Rattle.design_maker.proofs.MadeFields.{high_field, low_field}

abbrev corner_fields : List (List (List ℕ))
corner_fields = (codes "-16" ∷ codes "-16" ∷ []) ∷ (codes "16" ∷ codes "-16" ∷ []) ∷ (codes "-16" ∷ codes "16" ∷ []) ∷ (codes "16" ∷ codes "16" ∷ []) ∷ []

state_records : records_of states_text ≡ corner_fields
unfolding states_text digits csv_on_literals
state_records = refl

state_held : (f g : List ℕ) (y z : ℤ) → IsNumberField f y → IsNumberField g z → HoldsNumbers state_rule 2 (f ∷ g ∷ []) (y ∷ z ∷ [])
state_held f g y z h k = record { width = refl; numbers = refl; each = held }
  where
    held : (i : ℕ) → i < 2 → IsNumberField (field_of (f ∷ g ∷ []) i) (at (y ∷ z ∷ []) i)
    held zero l = h
    held (suc zero) l = k
    held (suc (suc i)) l = absurd (omega arith)

each_state : (e : ℕ) → e < 4 → HoldsNumbers state_rule 2 (record_at corner_fields e) (row_of corner_matrix e)
each_state zero l = state_held (codes "-16") (codes "-16") (neg_ℤ (pos 16)) (neg_ℤ (pos 16)) low_field low_field
each_state (suc zero) l = state_held (codes "16") (codes "-16") (pos 16) (neg_ℤ (pos 16)) high_field low_field
each_state (suc (suc zero)) l = state_held (codes "-16") (codes "16") (neg_ℤ (pos 16)) (pos 16) low_field high_field
each_state (suc (suc (suc zero))) l = state_held (codes "16") (codes "16") (pos 16) (pos 16) high_field high_field
each_state (suc (suc (suc (suc e)))) l = absurd (omega arith)

pub is_states_text : (n : ℕ) → n ≡ 2 → IsStatesText states_text n corner_matrix
is_states_text n e = rw e (record { cols = refl; rows = rw state_records refl; each = rw state_records each_state })

-- each coordinate of a corner lies from -16 to 16
pub in_box : (e : ℕ) → e < 4 → (i : ℕ) → i < 2 → (neg_ℤ (pos 16) ≤ℤ at (row_of corner_matrix e) i) × (at (row_of corner_matrix e) i ≤ℤ pos 16)
in_box zero l zero k = (omega arith, omega arith)
in_box zero l (suc zero) k = (omega arith, omega arith)
in_box (suc zero) l zero k = (omega arith, omega arith)
in_box (suc zero) l (suc zero) k = (omega arith, omega arith)
in_box (suc (suc zero)) l zero k = (omega arith, omega arith)
in_box (suc (suc zero)) l (suc zero) k = (omega arith, omega arith)
in_box (suc (suc (suc zero))) l zero k = (omega arith, omega arith)
in_box (suc (suc (suc zero))) l (suc zero) k = (omega arith, omega arith)
in_box (suc (suc (suc (suc e)))) l i k = absurd (omega arith)
in_box e l (suc (suc i)) k = absurd (omega arith)
