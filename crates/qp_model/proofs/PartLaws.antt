-- The rules of a design's numbers are those of a design.
use Rattle.qp_model.specs.problem.Parts.{IsDesign}
use Rattle.qp_model.specs.problem.Rules.{AllHold}
use Rattle.qp_model.specs.problem.PartRules.{part_rules}
use Rattle.qp_model.specs.declared.design_parts.DesignParts.{DesignParts}

pub design_from_rules : (p : DesignParts) → AllHold (part_rules p) → IsDesign p
unfolding part_rules
design_from_rules p held =
    let (version, (states, (inputs, (stages, plant)))) = held in
    let (plant_den, (a_size, (a, (b_size, (b, cost))))) = plant in
    let (cost_den, (row_den, (input_count, (input_weights, (stage_size, (stage, (final_size, (final, limits)))))))) = cost in
    let (limit_den, (rows_size, (rows, (last_size, (last, box))))) = limits in
    let (grid, (lo_count, (lo, (hi_count, (hi, targets))))) = box in
    let (target_den, (violation, (gap, _))) = targets in
    record {
      version = version;
      states = states;
      inputs = inputs;
      stages = stages;
      plant_den = plant_den;
      a = record { rows = a_size.rows; cols = a_size.cols; numbers = a };
      b = record { rows = b_size.rows; cols = b_size.cols; numbers = b };
      cost_den = cost_den;
      row_den = row_den;
      input_count = input_count;
      input_weights = input_weights;
      stage_cost = record { rows = stage_size.rows; cols = stage_size.cols; numbers = stage.numbers };
      stage_weights = stage.weights;
      final_cost = record { rows = final_size.rows; cols = final_size.cols; numbers = final.numbers };
      final_weights = final.weights;
      limit_den = limit_den;
      stage_rows = record { rows = rows_size.rows; cols = rows_size.cols; numbers = rows };
      final_rows = record { rows = last_size.rows; cols = last_size.cols; numbers = last.numbers };
      some_row = last.some_row;
      grid = grid;
      lo = record { long = lo_count; numbers = lo };
      hi = record { long = hi_count; numbers = hi.numbers };
      box = hi.box;
      target_den = target_den;
      violation = violation;
      gap = gap;
    }

pub rules_from_design : (p : DesignParts) → IsDesign p → AllHold (part_rules p)
unfolding part_rules
rules_from_design p d = (
  d.version,
  (
    d.states,
    (
      d.inputs,
      (
        d.stages,
        (
          d.plant_den,
          (
            record { rows = d.a.rows; cols = d.a.cols },
            (
              d.a.numbers,
              (
                record { rows = d.b.rows; cols = d.b.cols },
                (
                  d.b.numbers,
                  (
                    d.cost_den,
                    (
                      d.row_den,
                      (
                        d.input_count,
                        (
                          d.input_weights,
                          (
                            record { rows = d.stage_cost.rows; cols = d.stage_cost.cols },
                            (
                              record { numbers = d.stage_cost.numbers; weights = d.stage_weights },
                              (
                                record { rows = d.final_cost.rows; cols = d.final_cost.cols },
                                (
                                  record { numbers = d.final_cost.numbers; weights = d.final_weights },
                                  (
                                    d.limit_den,
                                    (
                                      record { rows = d.stage_rows.rows; cols = d.stage_rows.cols },
                                      (
                                        d.stage_rows.numbers,
                                        (
                                          record { rows = d.final_rows.rows; cols = d.final_rows.cols },
                                          (
                                            record { numbers = d.final_rows.numbers; some_row = d.some_row },
                                            (
                                              d.grid,
                                              (
                                                d.lo.long,
                                                (
                                                  d.lo.numbers,
                                                  (
                                                    d.hi.long,
                                                    (
                                                      record { numbers = d.hi.numbers; box = d.box },
                                                      (d.target_den, (d.violation, (d.gap, tt))),
                                                    ),
                                                  ),
                                                ),
                                              ),
                                            ),
                                          ),
                                        ),
                                      ),
                                    ),
                                  ),
                                ),
                              ),
                            ),
                          ),
                        ),
                      ),
                    ),
                  ),
                ),
              ),
            ),
          ),
        ),
      ),
    ),
  ),
)
