use Rattle.std.proofs.lemmas.Result.{err_from_is_err_and}
use Rattle.design_files.specs.Keys.{seen}
use Rattle.design_files.specs.Places.{count_rules, low_rules, high_rules}
use Rattle.design_files.proofs.PartLaws.{fails_first, fails_second, fails_third, three_hold, high_fails, high_holds}
use Rattle.design_files.proofs.places.read_box.Goals as goal

pub returns-in_err-grid : goal.returns-in_err-grid
returns-in_err-grid c =
    let v = seen c.args.keys.now in
    let n = c.args.n in
    let e = err_from_is_err_and c.from_residual.result c.from_residual.ensures.1 in
    rw (e.1, e.2) (fails_first (count_rules 16 0 24 v.grid) (low_rules n v.lo) (high_rules n v.lo v.hi) _ c.in_err-grid.ensures)

pub returns-in_err-lo : goal.returns-in_err-lo
returns-in_err-lo c =
    let v = seen c.args.keys.now in
    let n = c.args.n in
    let e = err_from_is_err_and c.from_residual-in_err-lo.result c.from_residual-in_err-lo.ensures.1 in
    rw (e.1, e.2) (fails_second (count_rules 16 0 24 v.grid) (low_rules n v.lo) (high_rules n v.lo v.hi) _ c.in_ok-grid.ensures.0 c.in_err-lo.ensures)

pub returns-in_err-hi : goal.returns-in_err-hi
returns-in_err-hi c =
    let v = seen c.args.keys.now in
    let n = c.args.n in
    let e = err_from_is_err_and c.from_residual-in_err-hi.result c.from_residual-in_err-hi.ensures.1 in
    rw (e.1, e.2) (fails_third (count_rules 16 0 24 v.grid) (low_rules n v.lo) (high_rules n v.lo v.hi) _ c.in_ok-grid.ensures.0 c.in_ok-lo.ensures.0
    (high_fails n v.lo v.hi c.in_ok-lo.lo.items c.in_ok-lo.ensures.1.numbers c.in_ok-lo.ensures.1.fits.long _ (rw c.deref.ensures.value at c.in_err-hi.ensures)))

pub returns : goal.returns
returns c =
    let v = seen c.args.keys.now in
    let n = c.args.n in
    let found = (rw c.deref.ensures.value at c.in_ok-hi.ensures) in (
      three_hold (count_rules 16 0 24 v.grid) (low_rules n v.lo) (high_rules n v.lo v.hi) c.in_ok-grid.ensures.0 c.in_ok-lo.ensures.0
          (high_holds n v.lo v.hi c.in_ok-lo.lo.items c.in_ok-lo.ensures.1.numbers c.in_ok-lo.ensures.1.fits.long found.0),
      record { grid = c.in_ok-grid.ensures.1; lo = c.in_ok-lo.ensures.1; hi = rw c.in_ok-lo.ensures.1.fits.long at found.1.0; box = rw c.in_ok-lo.ensures.1.fits.long at found.1.1 },
    )
