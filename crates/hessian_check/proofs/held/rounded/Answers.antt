use Rattle.std.proofs.Common.{◌≡◌, length, arith}
use Rattle.mat_int.specs.Matrix.{zero_matrix}
use Rattle.hessian_check.specs.RowSums.{rounded_sum}
use Rattle.hessian_check.proofs.FillLaws.{enclosures_all, enclosures_zero}
use Rattle.hessian_check.proofs.held.rounded.Goals as goal

pub loop-i-init : goal.loop-i-init
loop-i-init c =
    let sums = c.args.sums.now in
    let n = length sums.mid.rows in
    let m : c.in_ok-out.out.mid ≡ zero_matrix n n = rw (c.rows.ensures.count, c.rows-2.ensures.count) at c.in_ok-out.ensures.mid in
    let r : c.in_ok-out.out.rad ≡ zero_matrix n n = rw (c.rows.ensures.count, c.rows-2.ensures.count) at c.in_ok-out.ensures.rad in
    enclosures_zero n (rounded_sum sums.mid sums.rad) c.in_ok-out.out.mid c.in_ok-out.out.rad m r

pub round_row-requires-clause-square : goal.round_row-requires-clause-square
round_row-requires-clause-square c = c.requires.square

pub round_row-requires-clause-room : goal.round_row-requires-clause-room
round_row-requires-clause-room c = c.requires.room

pub round_row-requires-clause-before : goal.round_row-requires-clause-before
round_row-requires-clause-before c = c.loop-i.invariant

pub loop-i-preserved : goal.loop-i-preserved
loop-i-preserved c = c.round_row.ensures

pub returns : goal.returns
returns c =
    let sums = c.args.sums.now in
    enclosures_all (length sums.mid.rows) (rounded_sum sums.mid sums.rad) c.loop-i.out.mid c.loop-i.out.rad c.loop-i.i (omega arith) c.loop-i.invariant
