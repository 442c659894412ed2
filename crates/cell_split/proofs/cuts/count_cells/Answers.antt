use Rattle.std.proofs.Common.{◌≤◌, ◌+◌, length, arith}
use Rattle.std.proofs.lemmas.Nat.{mul-le}
use Rattle.cell_split.proofs.CountFacts.{none_counted, more_counted, too_many, all_counted}
use Rattle.cell_split.proofs.cuts.count_cells.Goals as goal

pub loop-i-init : goal.loop-i-init
loop-i-init c = none_counted c.args.cuts.now

pub overflow_mul-cells : goal.overflow_mul-cells
overflow_mul-cells c =
    let few : length c.index-cuts-i.result.items ≤ 63 = rw c.index-cuts-i.is (c.requires c.loop-i.i c.index-cuts-i.result c.loop-i-test.true) in
    let low = mul-le c.loop-i.cells (c.len.result + 1) 64 64 c.loop-i.invariant.few (omega (arith, few, c.len.ensures)) in
    omega (arith, low)

pub returns-then-cells-gt-MOST_CELLS : goal.returns-then-cells-gt-MOST_CELLS
returns-then-cells-gt-MOST_CELLS c = λ l.
    let many = too_many c.args.cuts.now c.index-cuts-i.result c.loop-i.cells c.loop-i.i c.len.result c.loop-i-test.true c.index-cuts-i.is (omega (arith, c.len.ensures)) c.if-cells-gt-MOST_CELLS.true c.loop-i.invariant in
    omega (arith, l, many)

pub loop-i-preserved : goal.loop-i-preserved
loop-i-preserved c =
    more_counted c.args.cuts.now c.index-cuts-i.result c.loop-i.cells c.loop-i.i c.len.result c.loop-i-test.true c.index-cuts-i.is (omega (arith, c.len.ensures)) (omega (arith, c.if-cells-gt-MOST_CELLS.false)) c.loop-i.invariant

pub overflow_cast-result : goal.overflow_cast-result
overflow_cast-result c = omega (arith, c.loop-i.invariant.few)

pub returns : goal.returns
returns c =
    let all = all_counted c.args.cuts.now c.loop-i.cells c.loop-i.i (omega (arith, c.loop-i-test.false)) c.loop-i.invariant in
    (omega (arith, all, c.loop-i.invariant.few), all)
