use Rattle.std.proofs.Common.{◌≡◌, pos, arith, ap, ◌∙◌}
use Rattle.frac_scaled.specs.Enclosures.{Enclosure, multiple}
use Rattle.mat_int.specs.Enclosures.{enclosure_at}
use Rattle.enclosure.specs.Values.{pair}
use Rattle.hessian_check.specs.RowSums.{more_sum}
use Rattle.hessian_check.proofs.FillLaws.{enclosures_more, enclosures_row}
use Rattle.hessian_check.proofs.RowSumLaws.{more_is, more_room}
use Rattle.hessian_check.proofs.sums.add_products.Goals as goal

pub plus_product-requires : goal.plus_product-requires
plus_product-requires c =
    let sums = c.args.sums.now in
    let row = enclosure_at c.args.mid.now c.args.rad.now c.args.i in
    let k = c.args.count in
    more_room (enclosure_at sums.mid sums.rad c.args.j c.loop-l.l) (row c.args.j) (row c.loop-l.l) k c.at.ensures (c.times-own.ensures ∙ ap (multiple (pos k)) c.entry.ensures)
    c.entry-other.ensures (c.requires.room.sums c.args.j c.loop-l.l c.requires.inside (omega arith))

pub loop-l-preserved : goal.loop-l-preserved
loop-l-preserved c =
    let n = c.args.mid.now.cols in
    let sums = c.args.sums.now in
    let row = enclosure_at c.args.mid.now c.args.rad.now c.args.i in
    let k = c.args.count in
    let j = c.args.j in
    let l = c.loop-l.l in
    let is : pair c.plus_product.result ≡ more_sum sums.mid sums.rad row k j l =
    more_is (enclosure_at sums.mid sums.rad j l) (row j) (row l) k c.at.ensures (c.times-own.ensures ∙ ap (multiple (pos k)) c.entry.ensures) c.entry-other.ensures c.plus_product.ensures in
    enclosures_more n (more_sum sums.mid sums.rad row k) c.loop-l.more.mid c.loop-l.more.rad c.set.new.self.mid c.set.new.self.rad j l _ _ c.requires.inside (omega arith)
    c.set.ensures.mid c.set.ensures.rad (ap (λ (e : Enclosure). e.mid) is) (ap (λ (e : Enclosure). e.rad) is) c.loop-l.invariant

pub returns : goal.returns
returns c =
    let sums = c.args.sums.now in
    enclosures_row c.args.mid.now.cols (more_sum sums.mid sums.rad (enclosure_at c.args.mid.now c.args.rad.now c.args.i) c.args.count)
    c.loop-l.more.mid c.loop-l.more.rad c.args.j c.loop-l.l (omega arith) c.loop-l.invariant
