use Rattle.std.proofs.Common.{ℤ, pos, ◌*ℤ◌, length, arith, ap, ◌∙◌}
use Rattle.mat_int.specs.Matrix.{entry_of}
use Rattle.approx_inverse.specs.Spans.{cells}
use Rattle.approx_inverse.proofs.BoundLaws.{double_fits, doubled}
use Rattle.approx_inverse.proofs.WordLaws.{both_written, second_stays, kept_on}
use Rattle.approx_inverse.proofs.column.refine.Goals as goal

pub double-requires-clause-fits : goal.double-requires-clause-fits
double-requires-clause-fits c = λ k l.
    let n = length c.args.c.now in
    let h = entry_of c.args.h.now in
    let x = cells c.args.region.now.words c.args.x.now.start in
    let r = cells c.args.region.now.words c.args.r.now.start in
    (double_fits n h c.args.c.now c.args.l x r c.requires.task.roomy c.requires.descent k (omega (arith, c.requires.placed.x_len))).0

pub double-requires-2-clause-fits : goal.double-requires-2-clause-fits
double-requires-2-clause-fits c = λ k l.
    let n = length c.args.c.now in
    let h = entry_of c.args.h.now in
    let x = cells c.args.region.now.words c.args.x.now.start in
    let r = cells c.args.region.now.words c.args.r.now.start in
    rw (second_stays c.args.region.now c.double.new.region c.args.x.now c.args.r.now n _ k c.requires.placed c.double.ensures)
    (double_fits n h c.args.c.now c.args.l x r c.requires.task.roomy c.requires.descent k (omega (arith, c.requires.placed.r_len))).1

pub settle-requires-clause-descent : goal.settle-requires-clause-descent
settle-requires-clause-descent c =
    let n = length c.args.c.now in
    let h = entry_of c.args.h.now in
    let x = cells c.args.region.now.words c.args.x.now.start in
    let r = cells c.args.region.now.words c.args.r.now.start in
    let w1 = c.double.new.region in
    let w2 = c.double-2.new.region in
    let both = both_written c.args.region.now w1 w2 c.args.x.now c.args.r.now n _ _ c.requires.placed c.double.ensures c.double-2.ensures in
    doubled n h c.args.c.now c.args.l x r (cells w2.words c.args.x.now.start) (cells w2.words c.args.r.now.start) c.requires.descent both.first
    (λ k l. both.second k l ∙ ap (λ (z : ℤ). pos 2 *ℤ z) (second_stays c.args.region.now w1 c.args.x.now c.args.r.now n _ k c.requires.placed c.double.ensures))

pub returns-clause-kept : goal.returns-clause-kept
returns-clause-kept c =
    let n = length c.args.c.now in
    let w1 = c.double.new.region in
    let w2 = c.double-2.new.region in
    let both = both_written c.args.region.now w1 w2 c.args.x.now c.args.r.now n _ _ c.requires.placed c.double.ensures c.double-2.ensures in
    kept_on c.args.region.now w2 c.settle.new.region c.args.x.now c.args.r.now both.kept c.settle.ensures.kept
