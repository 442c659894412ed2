use Rattle.std.proofs.Common.{◌≡◌, ◌-◌, ◌+◌, ◌%◌, ◌++◌, ◌∷◌, [], arith, rules}
use Rattle.cell_split.proofs.CellFacts.{part_more}
use Rattle.cell_split.proofs.cell.parts_of.Goals as goal

pub loop-i-preserved : goal.loop-i-preserved
loop-i-preserved c =
    let items : c.push.new.self.items ≡ c.loop-i.parts.items ++ c.loop-i.rest % (c.len-count.result + 1) ∷ [] = search rules in
    part_more c.args.cuts.now c.index-cuts-i.result (c.args.cell - 1) c.loop-i.rest c.len-count.result c.loop-i.i c.loop-i.parts.items _ c.loop-i-test.true c.index-cuts-i.is (omega (arith, c.len-count.ensures)) items c.loop-i.invariant
