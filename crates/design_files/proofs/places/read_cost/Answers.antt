use Rattle.std.proofs.Common.{rules, ℕ, ◌++◌, List}
use mir.Val.{SFits}
use Rattle.std.specs.Int.{w128}
use Rattle.std.proofs.lemmas.Int.{to_z-of_z}
use Rattle.std.proofs.lemmas.Result.{err_from_is_err_and}
use Rattle.qp_model.specs.problem.Rules.{Rule}
use Rattle.design_files.specs.Keys.{seen}
use Rattle.design_files.specs.Values.{Values}
use Rattle.design_files.specs.Places.{denominator_rules, input_rules, cost_row_rules}
use Rattle.design_files.proofs.PartLaws.{fails_first, fails_second, fails_third, three_hold}
use Rattle.design_files.proofs.places.read_cost.Goals as goal

-- the rules of the weights and of the rows
abbrev after_denominators : ℕ → ℕ → Values → List Rule
after_denominators n p v = input_rules p v.input ++ (cost_row_rules 11 n v.stage_cost ++ cost_row_rules 12 n v.final_cost)

pub returns-in_err-read_denominator : goal.returns-in_err-read_denominator
returns-in_err-read_denominator c =
    let v = seen c.args.keys.now in
    let n = c.args.n in
    let p = c.args.p in
    let e = err_from_is_err_and c.from_residual.result c.from_residual.ensures.1 in
    rw (e.1, e.2) (fails_first (denominator_rules 8 v.cost_den) (denominator_rules 9 v.row_den) (after_denominators n p v) _ c.in_err-read_denominator.ensures)

pub returns-in_err-read_denominator-2 : goal.returns-in_err-read_denominator-2
returns-in_err-read_denominator-2 c =
    let v = seen c.args.keys.now in
    let n = c.args.n in
    let p = c.args.p in
    let e = err_from_is_err_and c.from_residual-in_err-read_denominator-2.result c.from_residual-in_err-read_denominator-2.ensures.1 in
    rw (e.1, e.2) (fails_second (denominator_rules 8 v.cost_den) (denominator_rules 9 v.row_den) (after_denominators n p v) _ c.in_ok-read_denominator.ensures.0 c.in_err-read_denominator-2.ensures)

pub returns-in_err-read_inputs : goal.returns-in_err-read_inputs
returns-in_err-read_inputs c =
    let v = seen c.args.keys.now in
    let n = c.args.n in
    let p = c.args.p in
    let e = err_from_is_err_and c.from_residual-in_err-read_inputs.result c.from_residual-in_err-read_inputs.ensures.1 in
    rw (e.1, e.2) (fails_third (denominator_rules 8 v.cost_den) (denominator_rules 9 v.row_den) (after_denominators n p v) _ c.in_ok-read_denominator.ensures.0 c.in_ok-read_denominator-2.ensures.0
    (fails_first (input_rules p v.input) (cost_row_rules 11 n v.stage_cost) (cost_row_rules 12 n v.final_cost) _ c.in_err-read_inputs.ensures))

pub returns-in_err-read_cost_rows : goal.returns-in_err-read_cost_rows
returns-in_err-read_cost_rows c =
    let v = seen c.args.keys.now in
    let n = c.args.n in
    let p = c.args.p in
    let e = err_from_is_err_and c.from_residual-in_err-read_cost_rows.result c.from_residual-in_err-read_cost_rows.ensures.1 in
    rw (e.1, e.2) (fails_third (denominator_rules 8 v.cost_den) (denominator_rules 9 v.row_den) (after_denominators n p v) _ c.in_ok-read_denominator.ensures.0 c.in_ok-read_denominator-2.ensures.0
    (fails_second (input_rules p v.input) (cost_row_rules 11 n v.stage_cost) (cost_row_rules 12 n v.final_cost) _ c.in_ok-read_inputs.ensures.0 c.in_err-read_cost_rows.ensures))

pub returns-in_err-read_cost_rows-2 : goal.returns-in_err-read_cost_rows-2
returns-in_err-read_cost_rows-2 c =
    let v = seen c.args.keys.now in
    let n = c.args.n in
    let p = c.args.p in
    let e = err_from_is_err_and c.from_residual-in_err-read_cost_rows-2.result c.from_residual-in_err-read_cost_rows-2.ensures.1 in
    rw (e.1, e.2) (fails_third (denominator_rules 8 v.cost_den) (denominator_rules 9 v.row_den) (after_denominators n p v) _ c.in_ok-read_denominator.ensures.0 c.in_ok-read_denominator-2.ensures.0
    (fails_third (input_rules p v.input) (cost_row_rules 11 n v.stage_cost) (cost_row_rules 12 n v.final_cost) _ c.in_ok-read_inputs.ensures.0 c.in_ok-read_cost_rows.ensures.0 c.in_err-read_cost_rows-2.ensures))

pub returns : goal.returns
returns c =
    let v = seen c.args.keys.now in
    let n = c.args.n in
    let p = c.args.p in
    let f0 : SFits w128 c.in_ok-read_denominator.field-0 = search rules in
    let f1 : SFits w128 c.in_ok-read_denominator-2.field-0 = search rules in (
      three_hold (denominator_rules 8 v.cost_den) (denominator_rules 9 v.row_den) (after_denominators n p v) c.in_ok-read_denominator.ensures.0 c.in_ok-read_denominator-2.ensures.0
          (three_hold (input_rules p v.input) (cost_row_rules 11 n v.stage_cost) (cost_row_rules 12 n v.final_cost) c.in_ok-read_inputs.ensures.0 c.in_ok-read_cost_rows.ensures.0 c.in_ok-read_cost_rows-2.ensures.0),
      record {
        den = rw (to_z-of_z w128 _ f0) c.in_ok-read_denominator.ensures.1;
        row_den = rw (to_z-of_z w128 _ f1) c.in_ok-read_denominator-2.ensures.1;
        input = c.in_ok-read_inputs.ensures.1;
        stage = c.in_ok-read_cost_rows.ensures.1;
        final_ = c.in_ok-read_cost_rows-2.ensures.1;
      },
    )
