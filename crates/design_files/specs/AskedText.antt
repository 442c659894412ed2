-- Design texts of any version. One of version 3 is the design that the same text with 2 there would be, and asks for a controller of the accelerated machine.
use Rattle.std.specs.Prelude.{◌≡◌, ℕ, ℤ, pos, negsuc, List, ◌++◌, Bool, false, ◌&&◌, Option, Some, None, IsSomeAnd, MatchOption, ◌==◌, if◌then◌else◌}
use Rattle.toml.specs.Data.{Members, integer}
use Rattle.qp_model.specs.problem.Parts.{IsDesign}
use Rattle.qp_model.specs.problem.Rules.{Rule, AllHold, IsFirstBroken}
use Rattle.number_text.specs.declared.text_fault.TextFault.{TextFault}
use Rattle.number_text.specs.declared.text_fault.TextFault.TheVariants.{NotToml}
use Rattle.design_files.specs.Document.{document_of}
use Rattle.design_files.specs.Numbers.{number_in}
use Rattle.design_files.specs.Values.{Values, values_of, further_keys}
use Rattle.design_files.specs.Places.{key_rules, place_rules}
use Rattle.design_files.specs.DesignText.{HasNumbers}
use Rattle.design_files.specs.declared.places.Asked.{Asked}

abbrev pub is_three : Option ℤ → Bool
is_three None = false
is_three (Some (pos n)) = n == 3
is_three (Some (negsuc n)) = false

-- a text of these values asks for the accelerated machine, where any version may
abbrev pub asks_fast : (any : Bool) → Values → Bool
asks_fast any v = any && is_three (number_in v.version)

-- the values, with 2 at the version then
abbrev pub plain_values : (any : Bool) → Values → Values
plain_values any v = record v { version = if asks_fast any v then Some (integer (pos 2)) else v.version }

-- a document with the keys of a design text and no further one, whose numbers are those of the design asked for
pub record IsAskedDocument (any : Bool) (asked : Asked) (document : Members) : Type 0 where
  pub fast : asked.fast ≡ asks_fast any (values_of document)
  pub numbers : HasNumbers (plain_values any (values_of document)) asked.design
  pub keys : AllHold (further_keys document)
  pub design : IsDesign asked.design

abbrev pub IsAskedText : (any : Bool) → List ℕ → Asked → Type 0
IsAskedText any bytes asked = IsSomeAnd (document_of bytes) (IsAskedDocument any asked)

-- the first fault of the bytes, as of a design text
abbrev pub asked_rules : (any : Bool) → Members → List Rule
asked_rules any document = key_rules document ++ place_rules (plain_values any (values_of document))

abbrev pub IsAskedFault : (any : Bool) → List ℕ → TextFault → Type 0
IsAskedFault any bytes fault = MatchOption (document_of bytes) (fault ≡ NotToml) (λ document. IsFirstBroken (asked_rules any document) fault)
