use Rattle.std.proofs.Common.{◌≡◌, ◌^◌, length, arith, ap, ◌∙◌}
use Rattle.integer_algebra.proofs.SizeLaws.{amount_term}
use Rattle.frac_scaled.specs.Enclosures.{Enclosure, divided}
use Rattle.mat_int.specs.Enclosures.{enclosure_at}
use Rattle.enclosure.specs.Values.{pair}
use Rattle.hessian_check.specs.RowSums.{far_entry, rounded_sum}
use Rattle.hessian_check.proofs.FillLaws.{enclosures_more, enclosures_row, enclosures_start}
use Rattle.hessian_check.proofs.RowSumLaws.{sum_near}
use Rattle.hessian_check.proofs.held.round_row.Goals as goal

pub divided-requires-clause-room : goal.divided-requires-clause-room
divided-requires-clause-room c =
    let sums = c.args.sums.now in
    let n = length sums.mid.rows in
    sum_near (enclosure_at sums.mid sums.rad c.args.i c.loop-j.j) _ c.at.ensures c.at.result.nonnegative
    (amount_term c.loop-j.j n (far_entry sums.mid sums.rad c.args.i) (omega arith)) (c.requires.room c.args.i c.requires.inside)

pub loop-j-preserved : goal.loop-j-preserved
loop-j-preserved c =
    let sums = c.args.sums.now in
    let is : pair c.divided.result ≡ rounded_sum sums.mid sums.rad c.args.i c.loop-j.j = c.divided.ensures ∙ ap (λ (e : Enclosure). divided e (2 ^ 40)) c.at.ensures in
    enclosures_more (length sums.mid.rows) (rounded_sum sums.mid sums.rad) c.loop-j.out.mid c.loop-j.out.rad c.set.new.self.mid c.set.new.self.rad c.args.i c.loop-j.j _ _
    c.requires.inside (omega arith) c.set.ensures.mid c.set.ensures.rad (ap (λ (e : Enclosure). e.mid) is) (ap (λ (e : Enclosure). e.rad) is) c.loop-j.invariant

pub loop-j-init : goal.loop-j-init
loop-j-init c = enclosures_start (length c.args.sums.now.mid.rows) (rounded_sum c.args.sums.now.mid c.args.sums.now.rad) c.args.out.now.mid c.args.out.now.rad c.args.i c.requires.before

pub at-requires-clause-row_in : goal.at-requires-clause-row_in
at-requires-clause-row_in c = c.requires.inside

pub at-requires-clause-col_in : goal.at-requires-clause-col_in
at-requires-clause-col_in c = rw c.requires.square (rw c.rows-j-end.ensures.count at c.loop-j-test.true)

pub set-requires-clause-row_in : goal.set-requires-clause-row_in
set-requires-clause-row_in c = rw c.loop-j.invariant.mids.before.rows c.requires.inside

pub set-requires-clause-col_in : goal.set-requires-clause-col_in
set-requires-clause-col_in c = rw c.loop-j.invariant.mids.before.cols (rw c.rows-j-end.ensures.count at c.loop-j-test.true)

pub returns : goal.returns
returns c = enclosures_row (length c.args.sums.now.mid.rows) (rounded_sum c.args.sums.now.mid c.args.sums.now.rad) c.loop-j.out.mid c.loop-j.out.rad c.args.i c.loop-j.j (omega arith) c.loop-j.invariant
