use Rattle.std.proofs.Common.{◌-◌, arith}
use Rattle.mat_int.specs.Lines.{lists}
use Rattle.cell_split.proofs.BoxFacts.{sized}
use Rattle.cell_split.proofs.cell.box_of.Goals as goal

pub low_ends-requires-clause-sized : goal.low_ends-requires-clause-sized
low_ends-requires-clause-sized c =
    rw (c.deref.ensures.value, c.deref-2.ensures.value)
    (sized c.args.parts.now.lo.items (lists c.args.cuts.now) (c.args.cell - 1) c.in_ok-chosen.chosen.items (omega (arith, c.requires.design.lo.long, c.requires.cuts.count)) c.in_ok-chosen.ensures)

pub high_ends-requires : goal.high_ends-requires
high_ends-requires c =
    rw (c.deref-3.ensures.value, c.deref-4.ensures.value)
    (sized c.args.parts.now.hi.items (lists c.args.cuts.now) (c.args.cell - 1) c.in_ok-chosen.chosen.items (omega (arith, c.requires.design.hi.long, c.requires.cuts.count)) c.in_ok-chosen.ensures)
