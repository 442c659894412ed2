-- The rules of a design text's places: the shape of the value at each, and then the range of its numbers.
use Rattle.std.specs.Prelude.{ℕ, ◌+◌, pos, ◌≤ℤ◌, List, [], ◌∷◌, ◌++◌, All, Option}
use Rattle.toml.specs.Data.{Data, Members}
use Rattle.qp_model.specs.problem.Limits.{text_version, last_version, most_states, most_inputs, most_stages}
use Rattle.qp_model.specs.problem.Range.{IsDenominator, IsNumerator, IsPositive}
use Rattle.qp_model.specs.problem.Rules.{Rule, shape, range}
use Rattle.qp_model.specs.problem.PartRules.{AreCosts, AreLimits, AreHighs}
use Rattle.design_files.specs.Numbers.{IsNumber, IsIntegerList, IsLists, number_of, count_of, list_of, lists_of}
use Rattle.design_files.specs.Values.{Values, in_order, keys_stand, further_keys}

-- an integer from low to high
abbrev pub count_rules : ℕ → ℕ → ℕ → Option Data → List Rule
count_rules place low high value =
    shape place (IsNumber value)
    ∷ range place ((pos low ≤ℤ number_of value) × (number_of value ≤ℤ pos high))
    ∷ []

abbrev pub denominator_rules : ℕ → Option Data → List Rule
denominator_rules place value = shape place (IsNumber value) ∷ range place (IsDenominator (number_of value)) ∷ []

abbrev pub positive_rules : ℕ → Option Data → List Rule
positive_rules place value = shape place (IsNumber value) ∷ range place (IsPositive (number_of value)) ∷ []

-- low to high lists of so many numerators each
abbrev pub table_rules : ℕ → ℕ → ℕ → ℕ → Option Data → List Rule
table_rules place low high width value =
    shape place (IsLists low high width value)
    ∷ range place (All (All IsNumerator) (lists_of value))
    ∷ []

-- rows of n coefficients, a target and a weight
abbrev pub cost_row_rules : ℕ → ℕ → Option Data → List Rule
cost_row_rules place n value =
    shape place (IsLists 0 12 (n + 2) value)
    ∷ range place (AreCosts (lists_of value) (n + 1))
    ∷ []

abbrev pub input_rules : ℕ → Option Data → List Rule
input_rules p value = shape 10 (IsIntegerList p value) ∷ range 10 (All IsPositive (list_of value)) ∷ []

-- rows of n coefficients and a bound, where there is one here or among the others
abbrev pub final_row_rules : ℕ → Option Data → Option Data → List Rule
final_row_rules n others value =
    shape 15 (IsLists 0 12 (n + 1) value)
    ∷ range 15 (AreLimits (lists_of value) (lists_of others))
    ∷ []

abbrev pub low_rules : ℕ → Option Data → List Rule
low_rules n value = shape 17 (IsIntegerList n value) ∷ range 17 (All IsNumerator (list_of value)) ∷ []

abbrev pub high_rules : ℕ → Option Data → Option Data → List Rule
high_rules n low value = shape 18 (IsIntegerList n value) ∷ range 18 (AreHighs (list_of value) (list_of low) n) ∷ []

-- ---- the places, by tables, for n states and p inputs
-- the version, and the sizes up to its greatest
abbrev pub size_places : Values → List Rule
size_places v =
    let version = count_of v.version in
    count_rules 1 text_version last_version v.version
    ++ (count_rules 2 1 (most_states version) v.states ++ (count_rules 3 1 (most_inputs version) v.inputs ++ count_rules 4 1 (most_stages version) v.stages))

abbrev pub plant_places : ℕ → ℕ → Values → List Rule
plant_places n p v = denominator_rules 5 v.plant_den ++ (table_rules 6 n n n v.a ++ table_rules 7 n n p v.b)

abbrev pub cost_places : ℕ → ℕ → Values → List Rule
cost_places n p v =
    denominator_rules 8 v.cost_den ++ (denominator_rules 9 v.row_den ++ (input_rules p v.input ++ (cost_row_rules 11 n v.stage_cost ++ cost_row_rules 12 n v.final_cost)))

abbrev pub limit_places : ℕ → ℕ → Values → List Rule
limit_places n p v = denominator_rules 13 v.limit_den ++ (table_rules 14 0 12 (n + p + 1) v.stage_rows ++ final_row_rules n v.stage_rows v.final_rows)

abbrev pub box_places : ℕ → Values → List Rule
box_places n v = count_rules 16 0 24 v.grid ++ (low_rules n v.lo ++ high_rules n v.lo v.hi)

abbrev pub target_places : Values → List Rule
target_places v = denominator_rules 19 v.target_den ++ (positive_rules 20 v.violation ++ positive_rules 21 v.gap)

-- all places
unfoldable pub rules_for : ℕ → ℕ → Values → List Rule
rules_for n p v = size_places v ++ (plant_places n p v ++ (cost_places n p v ++ (limit_places n p v ++ (box_places n v ++ target_places v))))

abbrev pub place_rules : Values → List Rule
place_rules v = rules_for (count_of v.states) (count_of v.inputs) v

-- that the keys stand there, and no further one
unfoldable pub key_rules : Members → List Rule
key_rules document = keys_stand 1 (in_order document) ++ further_keys document
