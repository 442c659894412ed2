-- The rules of a design's numbers. Their places are those of the keys of a design text, whose first is the text's version.
use Rattle.std.specs.Prelude.{◌≡◌, ℕ, ◌+◌, ◌≤◌, ◌<◌, ℤ, pos, ◌≤ℤ◌, List, [], ◌∷◌, ◌++◌, length, All, slice_index_or}
use Rattle.integer_algebra.specs.Sums.{at}
use Rattle.mat_int.specs.Matrix.{Matrix}
use Rattle.qp_model.specs.problem.Limits.{text_version, last_version, most_states, most_inputs, most_stages}
use Rattle.qp_model.specs.problem.Range.{LiesIn, IsDenominator, IsNumerator, IsPositive}
use Rattle.qp_model.specs.problem.Rules.{Rule, shape, range}
use Rattle.qp_model.specs.declared.design_parts.DesignParts.{DesignParts}

-- low to high rows, of width numbers each
pub record HasSize (m : Matrix) (low high width : ℕ) : Type 0 where
  pub rows : LiesIn low high (length m.rows)
  pub cols : m.cols ≡ width

-- numerators, and a weight of at least 0 at place j of each row
pub record AreCosts (rows : List (List ℤ)) (j : ℕ) : Type 0 where
  pub numbers : All (All IsNumerator) rows
  pub weights : (r : ℕ) → r < length rows → pos 0 ≤ℤ at (slice_index_or rows r []) j

-- numerators, and at least one row here or among the others
pub record AreLimits (rows others : List (List ℤ)) : Type 0 where
  pub numbers : All (All IsNumerator) rows
  pub some_row : 1 ≤ length others + length rows

-- numerators, each of the n at least the low one
pub record AreHighs (high low : List ℤ) (n : ℕ) : Type 0 where
  pub numbers : All IsNumerator high
  pub box : (i : ℕ) → i < n → at low i ≤ℤ at high i

abbrev pub size_rules : DesignParts → List Rule
size_rules p =
    range 1 (LiesIn text_version last_version p.version)
    ∷ range 2 (LiesIn 1 (most_states p.version) p.states)
    ∷ range 3 (LiesIn 1 (most_inputs p.version) p.inputs)
    ∷ range 4 (LiesIn 1 (most_stages p.version) p.stages)
    ∷ []

abbrev pub plant_rules : DesignParts → List Rule
plant_rules p =
    range 5 (IsDenominator p.plant_den)
    ∷ shape 6 (HasSize p.a p.states p.states p.states)
    ∷ range 6 (All (All IsNumerator) p.a.rows)
    ∷ shape 7 (HasSize p.b p.states p.states p.inputs)
    ∷ range 7 (All (All IsNumerator) p.b.rows)
    ∷ []

abbrev pub cost_rules : DesignParts → List Rule
cost_rules p =
    range 8 (IsDenominator p.cost_den)
    ∷ range 9 (IsDenominator p.row_den)
    ∷ shape 10 (length p.input_weights.items ≡ p.inputs)
    ∷ range 10 (All IsPositive p.input_weights.items)
    ∷ shape 11 (HasSize p.stage_cost 0 12 (p.states + 2))
    ∷ range 11 (AreCosts p.stage_cost.rows (p.states + 1))
    ∷ shape 12 (HasSize p.final_cost 0 12 (p.states + 2))
    ∷ range 12 (AreCosts p.final_cost.rows (p.states + 1))
    ∷ []

abbrev pub limit_rules : DesignParts → List Rule
limit_rules p =
    range 13 (IsDenominator p.limit_den)
    ∷ shape 14 (HasSize p.stage_rows 0 12 (p.states + p.inputs + 1))
    ∷ range 14 (All (All IsNumerator) p.stage_rows.rows)
    ∷ shape 15 (HasSize p.final_rows 0 12 (p.states + 1))
    ∷ range 15 (AreLimits p.final_rows.rows p.stage_rows.rows)
    ∷ []

abbrev pub box_rules : DesignParts → List Rule
box_rules p =
    range 16 (p.grid ≤ 24)
    ∷ shape 17 (length p.lo.items ≡ p.states)
    ∷ range 17 (All IsNumerator p.lo.items)
    ∷ shape 18 (length p.hi.items ≡ p.states)
    ∷ range 18 (AreHighs p.hi.items p.lo.items p.states)
    ∷ []

abbrev pub target_rules : DesignParts → List Rule
target_rules p =
    range 19 (IsDenominator p.target_den)
    ∷ range 20 (IsPositive p.violation)
    ∷ range 21 (IsPositive p.gap)
    ∷ []

-- all of them, in their order
unfoldable pub part_rules : DesignParts → List Rule
part_rules p = size_rules p ++ (plant_rules p ++ (cost_rules p ++ (limit_rules p ++ (box_rules p ++ target_rules p))))
