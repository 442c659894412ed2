use Rattle.std.proofs.Common.{rules}
use mir.Val.{SFits}
use Rattle.std.specs.Int.{w128}
use Rattle.std.proofs.lemmas.Int.{to_z-of_z}
use Rattle.std.proofs.lemmas.Result.{err_from_is_err_and}
use Rattle.design_files.specs.Keys.{seen}
use Rattle.design_files.specs.Places.{denominator_rules, positive_rules}
use Rattle.design_files.proofs.PartLaws.{fails_first, fails_second, fails_third, three_hold}
use Rattle.design_files.proofs.places.read_targets.Goals as goal

pub returns-in_err-read_denominator : goal.returns-in_err-read_denominator
returns-in_err-read_denominator c =
    let v = seen c.args.keys.now in
    let e = err_from_is_err_and c.from_residual.result c.from_residual.ensures.1 in
    rw (e.1, e.2) (fails_first (denominator_rules 19 v.target_den) (positive_rules 20 v.violation) (positive_rules 21 v.gap) _ c.in_err-read_denominator.ensures)

pub returns-in_err-read_positive : goal.returns-in_err-read_positive
returns-in_err-read_positive c =
    let v = seen c.args.keys.now in
    let e = err_from_is_err_and c.from_residual-in_err-read_positive.result c.from_residual-in_err-read_positive.ensures.1 in
    rw (e.1, e.2) (fails_second (denominator_rules 19 v.target_den) (positive_rules 20 v.violation) (positive_rules 21 v.gap) _ c.in_ok-read_denominator.ensures.0 c.in_err-read_positive.ensures)

pub returns-in_err-read_positive-2 : goal.returns-in_err-read_positive-2
returns-in_err-read_positive-2 c =
    let v = seen c.args.keys.now in
    let e = err_from_is_err_and c.from_residual-in_err-read_positive-2.result c.from_residual-in_err-read_positive-2.ensures.1 in
    rw (e.1, e.2) (fails_third (denominator_rules 19 v.target_den) (positive_rules 20 v.violation) (positive_rules 21 v.gap) _ c.in_ok-read_denominator.ensures.0 c.in_ok-read_positive.ensures.0 c.in_err-read_positive-2.ensures)

pub returns : goal.returns
returns c =
    let v = seen c.args.keys.now in
    let f0 : SFits w128 c.in_ok-read_denominator.field-0 = search rules in
    let f1 : SFits w128 c.in_ok-read_positive.field-0 = search rules in
    let f2 : SFits w128 c.in_ok-read_positive-2.field-0 = search rules in (
      three_hold (denominator_rules 19 v.target_den) (positive_rules 20 v.violation)
          (positive_rules 21 v.gap) c.in_ok-read_denominator.ensures.0 c.in_ok-read_positive.ensures.0 c.in_ok-read_positive-2.ensures.0,
      record { den = rw (to_z-of_z w128 _ f0) c.in_ok-read_denominator.ensures.1; violation = rw (to_z-of_z w128 _ f1) c.in_ok-read_positive.ensures.1; gap = rw (to_z-of_z w128 _ f2) c.in_ok-read_positive-2.ensures.1 },
    )
