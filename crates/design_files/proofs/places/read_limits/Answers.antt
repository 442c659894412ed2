use mir.Val.{SFits}
use Rattle.std.specs.Int.{w128}
use Rattle.std.proofs.lemmas.Int.{to_z-of_z}
use Rattle.std.proofs.lemmas.Result.{err_from_is_err_and}
use Rattle.design_files.specs.Keys.{seen}
use Rattle.std.proofs.Common.{rules, ◌+◌}
use Rattle.design_files.specs.Places.{denominator_rules, table_rules, final_row_rules}
use Rattle.design_files.proofs.PartLaws.{fails_first, fails_second, fails_third, three_hold, final_fails, final_holds}
use Rattle.design_files.proofs.places.read_limits.Goals as goal

pub returns-in_err-den : goal.returns-in_err-den
returns-in_err-den c =
    let v = seen c.args.keys.now in
    let n = c.args.n in
    let p = c.args.p in
    let e = err_from_is_err_and c.from_residual.result c.from_residual.ensures.1 in
    rw (e.1, e.2) (fails_first (denominator_rules 13 v.limit_den) (table_rules 14 0 12 (n + p + 1) v.stage_rows) (final_row_rules n v.stage_rows v.final_rows) _ c.in_err-den.ensures)

pub returns-in_err-stage : goal.returns-in_err-stage
returns-in_err-stage c =
    let v = seen c.args.keys.now in
    let n = c.args.n in
    let p = c.args.p in
    let e = err_from_is_err_and c.from_residual-in_err-stage.result c.from_residual-in_err-stage.ensures.1 in
    rw (e.1, e.2) (fails_second (denominator_rules 13 v.limit_den) (table_rules 14 0 12 (n + p + 1) v.stage_rows) (final_row_rules n v.stage_rows v.final_rows) _ c.in_ok-den.ensures.0 c.in_err-stage.ensures)

pub returns-in_err-final_ : goal.returns-in_err-final_
returns-in_err-final_ c =
    let v = seen c.args.keys.now in
    let n = c.args.n in
    let p = c.args.p in
    let e = err_from_is_err_and c.from_residual-in_err-final_.result c.from_residual-in_err-final_.ensures.1 in
    rw (e.1, e.2) (fails_third (denominator_rules 13 v.limit_den) (table_rules 14 0 12 (n + p + 1) v.stage_rows)
    (final_row_rules n v.stage_rows v.final_rows) _ c.in_ok-den.ensures.0 c.in_ok-stage.ensures.0 (final_fails n v.stage_rows v.final_rows c.in_ok-stage.stage c.in_ok-stage.ensures.1.numbers.rows _ c.in_err-final_.ensures))

pub returns : goal.returns
returns c =
    let v = seen c.args.keys.now in
    let n = c.args.n in
    let p = c.args.p in
    let f0 : SFits w128 c.in_ok-den.den = search rules in (
      three_hold (denominator_rules 13 v.limit_den) (table_rules 14 0 12 (n + p + 1) v.stage_rows) (final_row_rules n v.stage_rows v.final_rows) c.in_ok-den.ensures.0 c.in_ok-stage.ensures.0
          (final_holds n v.stage_rows v.final_rows c.in_ok-stage.stage c.in_ok-stage.ensures.1.numbers.rows c.in_ok-final_.ensures.0),
      record { den = rw (to_z-of_z w128 _ f0) c.in_ok-den.ensures.1; stage = c.in_ok-stage.ensures.1; final_ = c.in_ok-final_.ensures.1.0; some_row = c.in_ok-final_.ensures.1.1 },
    )
