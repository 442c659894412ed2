-- Rules in an order, each with the fault of breaking it.
use Rattle.std.specs.Prelude.{◌≡◌, ℕ, ◌⊎◌, List, [], ◌∷◌, Result, Ok, Err}
use Rattle.number_text.specs.declared.text_fault.TextFault.{TextFault}
use Rattle.number_text.specs.declared.text_fault.TextFault.TheVariants.{Shape, Range, Key}

pub record Rule : Type 1 where
  pub holds : Type 0
  pub fault : TextFault

-- the key of a place stands there; place 0 stands for keys that are none of a design text's
abbrev pub key : ℕ → Type 0 → Rule
key place holds = record { holds = holds; fault = Key place }

-- what stands at a place has its shape, and its numbers lie in their range
abbrev pub shape : ℕ → Type 0 → Rule
shape place holds = record { holds = holds; fault = Shape place }

abbrev pub range : ℕ → Type 0 → Rule
range place holds = record { holds = holds; fault = Range place }

abbrev pub AllHold : List Rule → Type 0
AllHold [] = Unit {0}
AllHold (rule ∷ rules) = rule.holds × AllHold rules

-- the fault is that of the first rule that is broken
abbrev pub IsFirstBroken : List Rule → TextFault → Type 0
IsFirstBroken [] fault = ⊥
IsFirstBroken (rule ∷ rules) fault = (¬ rule.holds × (fault ≡ rule.fault)) ⊎ (rule.holds × IsFirstBroken rules fault)

-- what a test of the rules answers
abbrev pub Tests : Result (Unit {0}) TextFault → List Rule → Type 0
Tests (Ok done) rules = AllHold rules
Tests (Err fault) rules = IsFirstBroken rules fault
