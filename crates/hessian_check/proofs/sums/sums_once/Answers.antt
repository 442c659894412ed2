use Rattle.std.proofs.Common.{◌≡◌, arith}
use Rattle.mat_int.specs.Matrix.{zero_matrix}
use Rattle.hessian_check.proofs.RowMatrices.{first_all, first_next, first_none, first_room, form_enclosures}
use Rattle.hessian_check.proofs.sums.sums_once.Goals as goal

pub loop-i-init : goal.loop-i-init
loop-i-init c =
    let g = c.args.c.now.g in
    let e : c.in_ok-sums.sums.mid ≡ zero_matrix g.cols g.cols = rw (c.cols.ensures, c.cols-2.ensures) at c.in_ok-sums.ensures.mid in
    let f : c.in_ok-sums.sums.rad ≡ zero_matrix g.cols g.cols = rw (c.cols.ensures, c.cols-2.ensures) at c.in_ok-sums.ensures.rad in
    first_none c.args.c.now c.in_ok-sums.sums.mid c.in_ok-sums.sums.rad e f

pub with_row-requires-clause-enclosures : goal.with_row-requires-clause-enclosures
with_row-requires-clause-enclosures c = form_enclosures c.requires.fine c.requires.parts c.args.c.now c.requires.form

pub with_row-requires-clause-room : goal.with_row-requires-clause-room
with_row-requires-clause-room c =
    first_room c.requires.fine c.requires.parts c.args.c.now c.requires.form c.loop-i.i c.loop-i.sums.mid c.loop-i.sums.rad (omega arith) c.loop-i.invariant

pub loop-i-preserved : goal.loop-i-preserved
loop-i-preserved c =
    first_next c.args.c.now c.loop-i.i c.loop-i.sums.mid c.loop-i.sums.rad c.in_ok-sums-2.sums.mid c.in_ok-sums-2.sums.rad (omega arith) c.loop-i.invariant c.in_ok-sums-2.ensures

pub returns : goal.returns
returns c = first_all c.args.c.now c.loop-i.i c.loop-i.sums.mid c.loop-i.sums.rad (omega arith) c.loop-i.invariant
