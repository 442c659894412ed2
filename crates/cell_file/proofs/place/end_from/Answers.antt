use Rattle.std.proofs.Common.{◌+◌, arith, ap}
use Rattle.cell_file.proofs.Places.{two_begin, end_is}
use Rattle.cell_file.proofs.place.end_from.Goals as goal

pub sizes_in-requires : goal.sizes_in-requires
sizes_in-requires c = two_begin c.args.lines.now c.args.start (omega (arith, c.if-lines-start.false)) c.requires.beginning

pub returns-then-end-lines : goal.returns-then-end-lines
returns-then-end-lines c = λ d more rest form e.
    let count = end_is c.args.lines.now c.args.start c.sizes_in.result c.line_count.result d more rest (omega (arith, c.if-lines-start.false)) c.sizes_in.ensures c.line_count.ensures form e in
    (ap (λ (n : _). c.args.start + n) count, omega (arith, count, c.if-end-lines.true))

pub returns-else-end-lines : goal.returns-else-end-lines
returns-else-end-lines c = λ d more rest form e.
    let count = end_is c.args.lines.now c.args.start c.sizes_in.result c.line_count.result d more rest (omega (arith, c.if-lines-start.false)) c.sizes_in.ensures c.line_count.ensures form e in
    omega (arith, count, c.if-end-lines.false)
