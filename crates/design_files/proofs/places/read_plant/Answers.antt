use Rattle.std.proofs.Common.{rules}
use mir.Val.{SFits}
use Rattle.std.specs.Int.{w128}
use Rattle.std.proofs.lemmas.Int.{to_z-of_z}
use Rattle.std.proofs.lemmas.Result.{err_from_is_err_and}
use Rattle.design_files.specs.Keys.{seen}
use Rattle.design_files.specs.Places.{denominator_rules, table_rules}
use Rattle.design_files.proofs.PartLaws.{fails_first, fails_second, fails_third, three_hold}
use Rattle.design_files.proofs.places.read_plant.Goals as goal

pub returns-in_err-read_denominator : goal.returns-in_err-read_denominator
returns-in_err-read_denominator c =
    let v = seen c.args.keys.now in
    let n = c.args.n in
    let p = c.args.p in
    let e = err_from_is_err_and c.from_residual.result c.from_residual.ensures.1 in
    rw (e.1, e.2) (fails_first (denominator_rules 5 v.plant_den) (table_rules 6 n n n v.a) (table_rules 7 n n p v.b) _ c.in_err-read_denominator.ensures)

pub returns-in_err-read_table : goal.returns-in_err-read_table
returns-in_err-read_table c =
    let v = seen c.args.keys.now in
    let n = c.args.n in
    let p = c.args.p in
    let e = err_from_is_err_and c.from_residual-in_err-read_table.result c.from_residual-in_err-read_table.ensures.1 in
    rw (e.1, e.2) (fails_second (denominator_rules 5 v.plant_den) (table_rules 6 n n n v.a) (table_rules 7 n n p v.b) _ c.in_ok-read_denominator.ensures.0 c.in_err-read_table.ensures)

pub returns-in_err-read_table-2 : goal.returns-in_err-read_table-2
returns-in_err-read_table-2 c =
    let v = seen c.args.keys.now in
    let n = c.args.n in
    let p = c.args.p in
    let e = err_from_is_err_and c.from_residual-in_err-read_table-2.result c.from_residual-in_err-read_table-2.ensures.1 in
    rw (e.1, e.2) (fails_third (denominator_rules 5 v.plant_den) (table_rules 6 n n n v.a) (table_rules 7 n n p v.b) _ c.in_ok-read_denominator.ensures.0 c.in_ok-read_table.ensures.0 c.in_err-read_table-2.ensures)

pub returns : goal.returns
returns c =
    let v = seen c.args.keys.now in
    let n = c.args.n in
    let p = c.args.p in
    let f0 : SFits w128 c.in_ok-read_denominator.field-0 = search rules in (
      three_hold (denominator_rules 5 v.plant_den) (table_rules 6 n n n v.a) (table_rules 7 n n p v.b) c.in_ok-read_denominator.ensures.0 c.in_ok-read_table.ensures.0 c.in_ok-read_table-2.ensures.0,
      record { den = rw (to_z-of_z w128 _ f0) c.in_ok-read_denominator.ensures.1; a = c.in_ok-read_table.ensures.1; b = c.in_ok-read_table-2.ensures.1 },
    )
