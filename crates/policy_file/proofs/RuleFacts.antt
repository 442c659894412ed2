-- The rules of the fields.
use Rattle.std.proofs.Common.{ℕ, ℤ, List}
use Rattle.policy_file.specs.NumberField.{IsNumberField}
use Rattle.policy_file.specs.Layout.{rule_of, IsInRange}
use Rattle.policy_file.specs.declared.record.Layout.{Layout}
use Rattle.policy_file.specs.declared.record.Layout.TheVariants.{States, Policy, Face, Shifts}

pub rule_number : (layout : Layout) (i : ℕ) (field : List ℕ) (z : ℤ) → rule_of layout i field z → IsNumberField field z
rule_number States i field z r = r
rule_number Policy i field z r = r.0
rule_number Face i field z r = r.0
rule_number (Shifts floors) i field z r = r.0

pub rule_range : (layout : Layout) (i : ℕ) (field : List ℕ) (z : ℤ) → rule_of layout i field z → IsInRange layout i z
rule_range States i field z r = tt
rule_range Policy i field z r = r.1
rule_range Face i field z r = r.1
rule_range (Shifts floors) i field z r = r.1
