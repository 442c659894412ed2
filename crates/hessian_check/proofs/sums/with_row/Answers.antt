use Rattle.std.proofs.Common.{◌≡◌, arith}
use Rattle.mat_int.specs.Enclosures.{enclosure_at}
use Rattle.mat_int.specs.Matrix.{zero_matrix}
use Rattle.hessian_check.specs.RowSums.{more_sum}
use Rattle.hessian_check.proofs.FillLaws.{enclosures_all, enclosures_zero}
use Rattle.hessian_check.proofs.sums.with_row.Goals as goal

pub loop-j-init : goal.loop-j-init
loop-j-init c =
    let n = c.args.mid.now.cols in
    let f = more_sum c.args.sums.now.mid c.args.sums.now.rad (enclosure_at c.args.mid.now c.args.rad.now c.args.i) c.args.count in
    let m : c.in_ok-more.more.mid ≡ zero_matrix n n = rw (c.cols.ensures, c.cols-2.ensures) at c.in_ok-more.ensures.mid in
    let r : c.in_ok-more.more.rad ≡ zero_matrix n n = rw (c.cols.ensures, c.cols-2.ensures) at c.in_ok-more.ensures.rad in
    enclosures_zero n f c.in_ok-more.more.mid c.in_ok-more.more.rad m r

pub add_products-requires-clause-enclosures : goal.add_products-requires-clause-enclosures
add_products-requires-clause-enclosures c = c.requires.enclosures

pub add_products-requires-clause-room : goal.add_products-requires-clause-room
add_products-requires-clause-room c = c.requires.room

pub add_products-requires-clause-before : goal.add_products-requires-clause-before
add_products-requires-clause-before c = c.loop-j.invariant

pub loop-j-preserved : goal.loop-j-preserved
loop-j-preserved c = c.add_products.ensures

pub returns : goal.returns
returns c =
    let n = c.args.mid.now.cols in
    let f = more_sum c.args.sums.now.mid c.args.sums.now.rad (enclosure_at c.args.mid.now c.args.rad.now c.args.i) c.args.count in
    enclosures_all n f c.loop-j.more.mid c.loop-j.more.rad c.loop-j.j (omega arith) c.loop-j.invariant
