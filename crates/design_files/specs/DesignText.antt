-- Design texts, and the first fault of a text that is none.
use Rattle.std.specs.Prelude.{◌≡◌, ◌⊎◌, ℕ, pos, List, ◌++◌, Some, IsSomeAnd, MatchOption, Result, Ok, Err}
use Rattle.toml.specs.Data.{Members}
use Rattle.qp_model.specs.problem.Parts.{IsDesign}
use Rattle.qp_model.specs.problem.Rules.{Rule, AllHold, IsFirstBroken}
use Rattle.qp_model.specs.declared.design_parts.DesignParts.{DesignParts}
use Rattle.number_text.specs.declared.text_fault.TextFault.{TextFault}
use Rattle.number_text.specs.declared.text_fault.TextFault.TheVariants.{NotToml, Memory}
use Rattle.design_files.specs.Document.{document_of}
use Rattle.design_files.specs.Numbers.{number_in, list_in, IsMatrix}
use Rattle.design_files.specs.Values.{Values, values_of, further_keys}
use Rattle.design_files.specs.Places.{key_rules, place_rules}

-- the values are the numbers p
pub record HasNumbers (v : Values) (p : DesignParts) : Type 0 where
  pub version : number_in v.version ≡ Some (pos p.version)
  pub states : number_in v.states ≡ Some (pos p.states)
  pub inputs : number_in v.inputs ≡ Some (pos p.inputs)
  pub stages : number_in v.stages ≡ Some (pos p.stages)
  pub plant_den : number_in v.plant_den ≡ Some p.plant_den
  pub a : IsMatrix v.a p.a
  pub b : IsMatrix v.b p.b
  pub cost_den : number_in v.cost_den ≡ Some p.cost_den
  pub row_den : number_in v.row_den ≡ Some p.row_den
  pub input : list_in v.input ≡ Some p.input_weights.items
  pub stage_cost : IsMatrix v.stage_cost p.stage_cost
  pub final_cost : IsMatrix v.final_cost p.final_cost
  pub limit_den : number_in v.limit_den ≡ Some p.limit_den
  pub stage_rows : IsMatrix v.stage_rows p.stage_rows
  pub final_rows : IsMatrix v.final_rows p.final_rows
  pub grid : number_in v.grid ≡ Some (pos p.grid)
  pub lo : list_in v.lo ≡ Some p.lo.items
  pub hi : list_in v.hi ≡ Some p.hi.items
  pub target_den : number_in v.target_den ≡ Some p.target_den
  pub violation : number_in v.violation ≡ Some p.violation
  pub gap : number_in v.gap ≡ Some p.gap

-- a document with the keys of a design text and no further one, whose numbers are a design's, p
pub record IsDesignDocument (p : DesignParts) (document : Members) : Type 0 where
  pub numbers : HasNumbers (values_of document) p
  pub keys : AllHold (further_keys document)
  pub design : IsDesign p

abbrev pub IsDesignText : List ℕ → DesignParts → Type 0
IsDesignText bytes p = IsSomeAnd (document_of bytes) (IsDesignDocument p)

-- the rules of a document: that its keys are those of a design text, and then those of the places
abbrev pub rules_of : Members → List Rule
rules_of document = key_rules document ++ place_rules (values_of document)

-- the first fault of the bytes: that they are no document, or what the first broken rule of the document says
abbrev pub IsDesignFault : List ℕ → TextFault → Type 0
IsDesignFault bytes fault = MatchOption (document_of bytes) (fault ≡ NotToml) (λ document. IsFirstBroken (rules_of document) fault)

-- ---- what a reader answers: a value of which P holds, where the rules do, and else out of memory, or the fault of the first that is broken
abbrev pub FailsRule : TextFault → List Rule → Type 0
FailsRule fault rules = (fault ≡ Memory) ⊎ IsFirstBroken rules fault

abbrev pub Reads : {X : Type 0} → Result X TextFault → (X → Type 0) → List Rule → Type 0
Reads (Ok x) P rules = AllHold rules × P x
Reads (Err fault) P rules = FailsRule fault rules
