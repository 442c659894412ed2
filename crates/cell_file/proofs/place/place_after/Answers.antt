use Rattle.std.proofs.Common.{◌+◌, ap}
use Rattle.text_lines.specs.Lines.{views}
use Rattle.cell_file.proofs.Places.{begins_cell, cell_inside, cell_after, cell_stops}
use Rattle.cell_file.proofs.place.place_after.Goals as goal

pub end_from-requires-clause-beginning : goal.end_from-requires-clause-beginning
end_from-requires-clause-beginning c =
    let b = c.requires.beginning in
    let w = b.whole in
    let place = c.loop.invariant.place w.cells b.more w.are w.lines in
    begins_cell w.cells (views c.args.lines.now) b.more c.loop.place w.are w.lines place (cell_inside w.cells c.args.lines.now b.more c.loop.place _ _ c.requires.some w.are w.lines c.loop.invariant.counted c.loop.invariant.end c.loop-test.true)

pub returns-in_default : goal.returns-in_default
returns-in_default c = λ cells more are e.
    let lt = cell_inside cells c.args.lines.now more c.loop.place _ _ c.requires.some are e c.loop.invariant.counted c.loop.invariant.end c.loop-test.true in
    let place = c.loop.invariant.place cells more are e in
    cell_stops cells c.args.lines.now more c.loop.place c.end_from.result are e place lt c.end_from.ensures c.in_default.is

pub loop-preserved : goal.loop-preserved
loop-preserved c = record {
  counted = ap (λ (n : _). n + 1) c.loop.invariant.counted;
  end = c.loop.invariant.end;
  place = λ cells more are e.
      let lt = cell_inside cells c.args.lines.now more c.loop.place _ _ c.requires.some are e c.loop.invariant.counted c.loop.invariant.end c.loop-test.true in
      cell_after cells c.args.lines.now more c.loop.place c.end_from.result c.in-Some.end are e (c.loop.invariant.place cells more are e) lt c.end_from.ensures c.in-Some.is;
}
