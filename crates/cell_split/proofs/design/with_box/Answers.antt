use Rattle.std.proofs.Common.{◌≡◌, ℤ, List, ap, ◌∙◌, rules, to_z, of_z}
use Rattle.std.specs.Int.{w128}
use mir.Val.{SFits}
use Rattle.std.proofs.lemmas.Int.{to_z-of_z}
use Rattle.std.proofs.lemmas.List.Elements.{same_from_all_zip}
use Rattle.qp_model.specs.problem.Parts.{design_numbers}
use Rattle.qp_model.specs.declared.design_parts.DesignParts.{DesignParts}
use Rattle.cell_split.specs.declared.copies.MatPair.{MatPair}
use Rattle.cell_split.proofs.design.with_box.Goals as goal
use Rattle.cell_split.proofs.design.with_box.Goals.{In_ok-input_weights}

-- the numbers as they are read, and what was copied
record AreCopies (p : DesignParts) (weights : List ℤ) (plant costs rows : MatPair) : Type 0 where
  pub plant_den : to_z w128 (of_z w128 p.plant_den) ≡ p.plant_den
  pub cost_den : to_z w128 (of_z w128 p.cost_den) ≡ p.cost_den
  pub row_den : to_z w128 (of_z w128 p.row_den) ≡ p.row_den
  pub limit_den : to_z w128 (of_z w128 p.limit_den) ≡ p.limit_den
  pub target_den : to_z w128 (of_z w128 p.target_den) ≡ p.target_den
  pub violation : to_z w128 (of_z w128 p.violation) ≡ p.violation
  pub gap : to_z w128 (of_z w128 p.gap) ≡ p.gap
  pub weights_are : weights ≡ p.input_weights.items
  pub a : plant.first ≡ p.a
  pub b : plant.second ≡ p.b
  pub stage_cost : costs.first ≡ p.stage_cost
  pub final_cost : costs.second ≡ p.final_cost
  pub stage_rows : rows.first ≡ p.stage_rows
  pub final_rows : rows.second ≡ p.final_rows

copies : (c : In_ok-input_weights) → AreCopies c.args.parts.now c.in_ok-input_weights.input_weights.items c.in_ok-plant.plant c.in_ok-costs.costs c.in_ok-rows.rows
copies c =
    let plant_den : SFits w128 c.args.parts.now.plant_den = search rules in
    let cost_den : SFits w128 c.args.parts.now.cost_den = search rules in
    let row_den : SFits w128 c.args.parts.now.row_den = search rules in
    let limit_den : SFits w128 c.args.parts.now.limit_den = search rules in
    let target_den : SFits w128 c.args.parts.now.target_den = search rules in
    let violation : SFits w128 c.args.parts.now.violation = search rules in
    let gap : SFits w128 c.args.parts.now.gap = search rules in
    record {
      plant_den = to_z-of_z w128 c.args.parts.now.plant_den plant_den;
      cost_den = to_z-of_z w128 c.args.parts.now.cost_den cost_den;
      row_den = to_z-of_z w128 c.args.parts.now.row_den row_den;
      limit_den = to_z-of_z w128 c.args.parts.now.limit_den limit_den;
      target_den = to_z-of_z w128 c.args.parts.now.target_den target_den;
      violation = to_z-of_z w128 c.args.parts.now.violation violation;
      gap = to_z-of_z w128 c.args.parts.now.gap gap;
      weights_are = same_from_all_zip _ _ _ c.in_ok-input_weights.ensures.cases.0 (λ x y h. h);
      a = c.in_ok-plant.ensures.first;
      b = c.in_ok-plant.ensures.second;
      stage_cost = c.in_ok-costs.ensures.first;
      final_cost = c.in_ok-costs.ensures.second;
      stage_rows = c.in_ok-rows.ensures.first;
      final_rows = c.in_ok-rows.ensures.second;
    }

pub new-requires : goal.new-requires
new-requires c =
    let d = c.requires.design in
    let is = copies (goal.at.new-requires c).In_ok-input_weights in
    record {
      version = d.version;
      states = d.states;
      inputs = d.inputs;
      stages = d.stages;
      plant_den = rw is.plant_den d.plant_den;
      a = rw is.a d.a;
      b = rw is.b d.b;
      cost_den = rw is.cost_den d.cost_den;
      row_den = rw is.row_den d.row_den;
      input_count = rw is.weights_are d.input_count;
      input_weights = rw is.weights_are d.input_weights;
      stage_cost = rw is.stage_cost d.stage_cost;
      stage_weights = rw is.stage_cost d.stage_weights;
      final_cost = rw is.final_cost d.final_cost;
      final_weights = rw is.final_cost d.final_weights;
      limit_den = rw is.limit_den d.limit_den;
      stage_rows = rw is.stage_rows d.stage_rows;
      final_rows = rw is.final_rows d.final_rows;
      some_row = rw (is.stage_rows, is.final_rows) d.some_row;
      grid = d.grid;
      lo = c.requires.right.lo;
      hi = c.requires.right.hi;
      box = c.requires.right.box;
      target_den = rw is.target_den d.target_den;
      violation = rw is.violation d.violation;
      gap = rw is.gap d.gap;
    }

pub returns : goal.returns
returns c =
    let p = c.args.parts.now in
    let is = copies (goal.at.returns c).In_ok-input_weights in
    ap design_numbers c.new.ensures ∙ (λ i. record {
      version = p.version;
      states = p.states;
      inputs = p.inputs;
      stages = p.stages;
      plant_den = is.plant_den i;
      a = is.a i;
      b = is.b i;
      cost_den = is.cost_den i;
      row_den = is.row_den i;
      input_weights = is.weights_are i;
      stage_cost = is.stage_cost i;
      final_cost = is.final_cost i;
      limit_den = is.limit_den i;
      stage_rows = is.stage_rows i;
      final_rows = is.final_rows i;
      grid = p.grid;
      lo = c.args.held.lo.items;
      hi = c.args.held.hi.items;
      target_den = is.target_den i;
      violation = is.violation i;
      gap = is.gap i;
    })
