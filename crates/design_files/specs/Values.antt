-- The keys of a design text, in the order of their places, and the values that stand there.
use Rattle.std.specs.Prelude.{ℕ, ◌+◌, List, [], ◌∷◌, map, codes, All, Contains, Option, Some, None, IsSome, IfSome}
use Rattle.toml.specs.Data.{Data, Members, no_members, member, get_member}
use Rattle.qp_model.specs.problem.Rules.{Rule, key}
use Rattle.design_files.specs.Document.{table_at, value_at, standing}

pub record Values : Type 0 where
  pub version : Option Data
  pub states : Option Data
  pub inputs : Option Data
  pub stages : Option Data
  pub plant_den : Option Data
  pub a : Option Data
  pub b : Option Data
  pub cost_den : Option Data
  pub row_den : Option Data
  pub input : Option Data
  pub stage_cost : Option Data
  pub final_cost : Option Data
  pub limit_den : Option Data
  pub stage_rows : Option Data
  pub final_rows : Option Data
  pub grid : Option Data
  pub lo : Option Data
  pub hi : Option Data
  pub target_den : Option Data
  pub violation : Option Data
  pub gap : Option Data

abbrev pub values_of : Members → Values
values_of document = record {
  version = get_member (codes "version") document;
  states = get_member (codes "states") document;
  inputs = get_member (codes "inputs") document;
  stages = get_member (codes "stages") document;
  plant_den = value_at (codes "plant") (codes "den") document;
  a = value_at (codes "plant") (codes "a") document;
  b = value_at (codes "plant") (codes "b") document;
  cost_den = value_at (codes "cost") (codes "den") document;
  row_den = value_at (codes "cost") (codes "row_den") document;
  input = value_at (codes "cost") (codes "input") document;
  stage_cost = value_at (codes "cost") (codes "stage") document;
  final_cost = value_at (codes "cost") (codes "final") document;
  limit_den = value_at (codes "limits") (codes "den") document;
  stage_rows = value_at (codes "limits") (codes "stage") document;
  final_rows = value_at (codes "limits") (codes "final") document;
  grid = value_at (codes "box") (codes "grid") document;
  lo = value_at (codes "box") (codes "lo") document;
  hi = value_at (codes "box") (codes "hi") document;
  target_den = value_at (codes "targets") (codes "den") document;
  violation = value_at (codes "targets") (codes "violation") document;
  gap = value_at (codes "targets") (codes "gap") document;
}

abbrev pub keys_of : Members → List (List ℕ)
keys_of no_members = []
keys_of (member name value members) = name ∷ keys_of members

-- each key is one of the names
abbrev pub HasOnly : List (List ℕ) → Members → Type 0
HasOnly names members = All (Contains names) (keys_of members)

-- no further key stands at the top, and none in one of the five tables
abbrev pub further_keys : Members → List Rule
further_keys document =
    key 0 (HasOnly (codes "version" ∷ codes "states" ∷ codes "inputs" ∷ codes "stages" ∷ codes "plant" ∷ codes "cost" ∷ codes "limits" ∷ codes "box" ∷ codes "targets" ∷ []) document)
    ∷ key 0 (IfSome (table_at (codes "plant") document) (HasOnly (codes "den" ∷ codes "a" ∷ codes "b" ∷ [])))
    ∷ key 0 (IfSome (table_at (codes "cost") document) (HasOnly (codes "den" ∷ codes "row_den" ∷ codes "input" ∷ codes "stage" ∷ codes "final" ∷ [])))
    ∷ key 0 (IfSome (table_at (codes "limits") document) (HasOnly (codes "den" ∷ codes "stage" ∷ codes "final" ∷ [])))
    ∷ key 0 (IfSome (table_at (codes "box") document) (HasOnly (codes "grid" ∷ codes "lo" ∷ codes "hi" ∷ [])))
    ∷ key 0 (IfSome (table_at (codes "targets") document) (HasOnly (codes "den" ∷ codes "violation" ∷ codes "gap" ∷ [])))
    ∷ []

-- ---- that all stand there
-- the table and the key of each place; the first four stand at the top
abbrev pub places : List (Option (List ℕ) × List ℕ)
places =
    (None, codes "version") ∷ (None, codes "states") ∷ (None, codes "inputs") ∷ (None, codes "stages")
    ∷ (Some (codes "plant"), codes "den") ∷ (Some (codes "plant"), codes "a") ∷ (Some (codes "plant"), codes "b")
    ∷ (Some (codes "cost"), codes "den") ∷ (Some (codes "cost"), codes "row_den") ∷ (Some (codes "cost"), codes "input")
    ∷ (Some (codes "cost"), codes "stage") ∷ (Some (codes "cost"), codes "final")
    ∷ (Some (codes "limits"), codes "den") ∷ (Some (codes "limits"), codes "stage") ∷ (Some (codes "limits"), codes "final")
    ∷ (Some (codes "box"), codes "grid") ∷ (Some (codes "box"), codes "lo") ∷ (Some (codes "box"), codes "hi")
    ∷ (Some (codes "targets"), codes "den") ∷ (Some (codes "targets"), codes "violation") ∷ (Some (codes "targets"), codes "gap") ∷ []

-- what stands there, in this order
abbrev pub in_order : Members → List (Option Data)
in_order document = map (λ p. standing p.0 p.1 document) places

-- each of these values stands at its key, the first at this place
abbrev pub keys_stand : ℕ → List (Option Data) → List Rule
keys_stand place [] = []
keys_stand place (value ∷ values) = key place (IsSome value) ∷ keys_stand (place + 1) values
