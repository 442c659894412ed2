use Rattle.std.proofs.lemmas.Result.{err_from_is_err_and}
use Rattle.qp_model.proofs.RuleLaws.{all_hold}
use Rattle.design_files.specs.Keys.{seen}
use Rattle.design_files.specs.Places.{limit_places, box_places, target_places}
use Rattle.design_files.proofs.ReadLaws.{fails_before, fails_after}
use Rattle.design_files.proofs.PlaceLaws.{after_limits}
use Rattle.design_files.proofs.places.read_last.Goals as goal

pub returns-in_err-limits : goal.returns-in_err-limits
returns-in_err-limits c =
    let v = seen c.args.keys.now in
    let n = c.args.n in
    let p = c.args.p in
    let e = err_from_is_err_and c.from_residual.result c.from_residual.ensures.1 in
    rw (e.1, e.2) (fails_before (limit_places n p v) (after_limits n p v) _ c.in_err-limits.ensures)

pub returns-in_err-bounds : goal.returns-in_err-bounds
returns-in_err-bounds c =
    let v = seen c.args.keys.now in
    let n = c.args.n in
    let p = c.args.p in
    let e = err_from_is_err_and c.from_residual-in_err-bounds.result c.from_residual-in_err-bounds.ensures.1 in
    rw (e.1, e.2) (fails_after (limit_places n p v) (after_limits n p v) _ c.in_ok-limits.ensures.0 (fails_before (box_places n v) (target_places v) _ c.in_err-bounds.ensures))

pub returns-in_err-targets : goal.returns-in_err-targets
returns-in_err-targets c =
    let v = seen c.args.keys.now in
    let n = c.args.n in
    let p = c.args.p in
    let e = err_from_is_err_and c.from_residual-in_err-targets.result c.from_residual-in_err-targets.ensures.1 in
    rw (e.1, e.2) (fails_after (limit_places n p v) (after_limits n p v) _ c.in_ok-limits.ensures.0 (fails_after (box_places n v) (target_places v) _ c.in_ok-bounds.ensures.0 c.in_err-targets.ensures))

pub returns : goal.returns
returns c =
    let v = seen c.args.keys.now in
    let n = c.args.n in
    let p = c.args.p in (
      all_hold (limit_places n p v) (after_limits n p v) c.in_ok-limits.ensures.0 (all_hold (box_places n v) (target_places v) c.in_ok-bounds.ensures.0 c.in_ok-targets.ensures.0),
      record { limits = c.in_ok-limits.ensures.1; bounds = c.in_ok-bounds.ensures.1; targets = c.in_ok-targets.ensures.1 },
    )
