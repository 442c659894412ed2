-- Which numbers a text's records hold.
use Rattle.std.specs.Prelude.{◌≡◌, ⊤, ℕ, ℤ}
use Rattle.integer_algebra.specs.Sums.{at}
use Rattle.qp_model.specs.problem.Policy.{IsPlanDenominator}
use Rattle.policy_file.specs.Records.{RecordRule}
use Rattle.policy_file.specs.StatesText.{state_rule}
use Rattle.policy_file.specs.PolicyText.{policy_rule}
use Rattle.policy_file.specs.FaceRule.{IsFaceNumber, face_rule}
use Rattle.policy_file.specs.FloorRule.{IsShiftFrom, floor_rule}
use Rattle.policy_file.specs.declared.record.Layout.{Layout}
use Rattle.policy_file.specs.declared.record.Layout.TheVariants.{States, Policy, Face, Shifts}

abbrev pub rule_of : Layout → RecordRule
rule_of States = state_rule
rule_of Policy = policy_rule
rule_of Face = face_rule
rule_of (Shifts floors) = floor_rule floors.now

-- what it asks of a number beside its bytes
abbrev pub IsInRange : Layout → ℕ → ℤ → Type 0
IsInRange States i z = ⊤
IsInRange Policy i z = i ≡ 0 → IsPlanDenominator z
IsInRange Face i z = IsFaceNumber i z
IsInRange (Shifts floors) i z = IsShiftFrom (at floors.now i) z
