-- The rules of the tables together.
use Rattle.std.proofs.Common.{◌≡◌, ℕ, pos, List, ◌++◌, Option, Some, refl, sym, ap, ◌∙◌}
use Rattle.std.proofs.lemmas.List.{append_assoc}
use Rattle.toml.specs.Data.{Data}
use Rattle.qp_model.specs.problem.Limits.{most_states, most_inputs, most_stages}
use Rattle.qp_model.specs.problem.Rules.{Rule}
use Rattle.design_files.specs.Numbers.{number_in, count_of}
use Rattle.design_files.specs.Values.{Values}
use Rattle.design_files.specs.Places.{count_rules, size_places, plant_places, cost_places, limit_places, box_places, target_places, rules_for, place_rules}
use Rattle.design_files.specs.Sections.{HasSizeNumbers}
use Rattle.design_files.specs.declared.places.Sizes.{Sizes}

pub count_is : (value : Option Data) (n : ℕ) → number_in value ≡ Some (pos n) → count_of value ≡ n
count_is value n is = rw is refl

-- ---- the rules after those of a table
-- after those of the version: the sizes up to its greatest
abbrev pub after_version : (version : ℕ) → Values → List Rule
after_version version v = count_rules 2 1 (most_states version) v.states ++ (count_rules 3 1 (most_inputs version) v.inputs ++ count_rules 4 1 (most_stages version) v.stages)

abbrev pub after_limits : ℕ → ℕ → Values → List Rule
after_limits n p v = box_places n v ++ target_places v

abbrev pub after_cost : ℕ → ℕ → Values → List Rule
after_cost n p v = limit_places n p v ++ after_limits n p v

abbrev pub after_plant : ℕ → ℕ → Values → List Rule
after_plant n p v = cost_places n p v ++ after_cost n p v

abbrev pub after_sizes : ℕ → ℕ → Values → List Rule
after_sizes n p v = plant_places n p v ++ after_plant n p v

-- the rules up to those of the cost, and those from there on
abbrev pub first_places : ℕ → ℕ → Values → List Rule
first_places n p v = size_places v ++ (plant_places n p v ++ cost_places n p v)

-- three lists as one, and what is after them
pub in_halves : (a b c d : List Rule) → a ++ (b ++ (c ++ d)) ≡ (a ++ (b ++ c)) ++ d
in_halves a b c d = sym (append_assoc a (b ++ c) d ∙ ap (λ rest. a ++ rest) (append_assoc b c d))

pub halves : (v : Values) → place_rules v ≡ first_places (count_of v.states) (count_of v.inputs) v ++ after_cost (count_of v.states) (count_of v.inputs) v
unfolding rules_for
halves v = in_halves (size_places v) (plant_places (count_of v.states) (count_of v.inputs) v) (cost_places (count_of v.states) (count_of v.inputs) v) (after_cost (count_of v.states) (count_of v.inputs) v)

-- the sizes are the counts that stand there
pub states_are : (v : Values) (s : Sizes) → HasSizeNumbers v s → count_of v.states ≡ s.states
states_are v s h = count_is v.states s.states h.states.number

pub inputs_are : (v : Values) (s : Sizes) → HasSizeNumbers v s → count_of v.inputs ≡ s.inputs
inputs_are v s h = count_is v.inputs s.inputs h.inputs.number

-- the rules of a text whose sizes are known
pub place_rules_at : (v : Values) (s : Sizes) → HasSizeNumbers v s → place_rules v ≡ size_places v ++ after_sizes s.states s.inputs v
unfolding rules_for
place_rules_at v s h = rw (count_is v.states s.states h.states.number, count_is v.inputs s.inputs h.inputs.number) refl
