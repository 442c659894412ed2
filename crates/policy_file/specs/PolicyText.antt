-- A policy text: for each corner of the box a record of a denominator and the numerators of a plan.
use Rattle.std.specs.Prelude.{◌≡◌, ◌≢◌, ◌⊎◌, ℕ, ◌+◌, ◌^◌, ◌<◌, List, ◌∷◌, length}
use Rattle.integer_algebra.specs.Sums.{at}
use Rattle.mat_int.specs.Matrix.{row_of}
use Rattle.qp_model.specs.problem.Design.{Design, entries}
use Rattle.number_text.specs.declared.text_fault.TextFault.{TextFault}
use Rattle.number_text.specs.declared.text_fault.TextFault.TheVariants.{Count}
use Rattle.qp_model.specs.problem.Policy.{Plans, IsPlanDenominator}
use Rattle.policy_file.specs.NumberField.{IsNumberField}
use Rattle.policy_file.specs.Records.{RecordRule, HoldsNumbers, HoldUpTo, IsRecordsFault, records_of, record_at}

-- a number is right in each field, and in the first it is a denominator
abbrev pub policy_rule : RecordRule
policy_rule i field z = IsNumberField field z × (i ≡ 0 → IsPlanDenominator z)

-- the fields of a record
abbrev pub record_length : Design → ℕ
record_length d = entries d + 1

-- the bytes are the text of so many plans for the design, which are these
pub record ArePlans (bytes : List ℕ) (d : Design) (number : ℕ) (plans : Plans) : Type 0 where
  pub records : length (records_of bytes) ≡ number
  pub count : length plans.denominators ≡ number
  pub rows : length plans.numerators.rows ≡ number
  pub cols : plans.numerators.cols ≡ entries d
  pub each : (e : ℕ) → e < number →
      HoldsNumbers policy_rule (record_length d) (record_at (records_of bytes) e) (at plans.denominators e ∷ row_of plans.numerators e)

-- each record is right, and there are so many of them, which isn't their number
pub record IsCountFault (rows : List (List (List ℕ))) (d : Design) (number : ℕ) (fault : TextFault) : Type 0 where
  pub each : HoldUpTo policy_rule (record_length d) rows (length rows)
  pub here : length rows ≢ number
  pub told : fault ≡ Count (length rows)

-- the bytes are no text of so many plans, and this is their first fault: that of the first record that has one, and else the count of records
abbrev pub IsPlansFault : List ℕ → Design → (number : ℕ) → TextFault → Type 0
IsPlansFault bytes d number fault = IsRecordsFault policy_rule (record_length d) (records_of bytes) fault ⊎ IsCountFault (records_of bytes) d number fault

-- ---- a plan for each corner of the box
abbrev pub IsPolicyText : List ℕ → Design → Plans → Type 0
IsPolicyText bytes d plans = ArePlans bytes d (2 ^ d.states) plans

abbrev pub IsPolicyFault : List ℕ → Design → TextFault → Type 0
IsPolicyFault bytes d fault = IsPlansFault bytes d (2 ^ d.states) fault
