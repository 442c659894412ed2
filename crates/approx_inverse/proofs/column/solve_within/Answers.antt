use Rattle.std.proofs.Common.{◌≡◌, ◌+◌, length, arith, sym}
use Rattle.std.specs.Int.{w128}
use Rattle.std.proofs.lemmas.Int.{to_z-of_z}
use Rattle.integer_algebra.specs.Sums.{at}
use Rattle.mat_int.specs.Matrix.{entry_of}
use Rattle.approx_inverse.specs.Spans.{cells}
use Rattle.approx_inverse.proofs.BoundLaws.{negated_fits, starts}
use Rattle.approx_inverse.proofs.WordLaws.{both_written, kept_on, still_placed}
use Rattle.approx_inverse.proofs.column.solve_within.Goals as goal

pub negate-requires-clause-fits : goal.negate-requires-clause-fits
negate-requires-clause-fits c = λ k l. negated_fits (length c.args.c.now) (at c.args.c.now) k c.requires.column_small (omega (arith, c.requires.placed.r_len))

pub settle-requires-clause-task : goal.settle-requires-clause-task
settle-requires-clause-task c = rw (to_z-of_z w128 _ c.ranges.floor) (c.requires.task 0 (omega arith))

pub settle-requires-clause-descent : goal.settle-requires-clause-descent
settle-requires-clause-descent c =
    let n = length c.args.c.now in
    let w2 = c.negate.new.region in
    let both = both_written c.args.region.now c.clear.new.region w2 c.args.x.now c.args.r.now n _ _ c.requires.placed c.clear.ensures c.negate.ensures in
    starts n (entry_of c.args.h.now) c.args.c.now (cells w2.words c.args.x.now.start) (cells w2.words c.args.r.now.start) both.first both.second

pub refine-requires-clause-task : goal.refine-requires-clause-task
refine-requires-clause-task c = rw (to_z-of_z w128 _ c.ranges.floor) (c.requires.task (c.loop-l.l + 1) (omega arith))

pub returns-clause-descent : goal.returns-clause-descent
returns-clause-descent c = let e : c.loop-l.l ≡ c.args.f = omega arith in rw e at c.loop-l.invariant.descent

pub clear-requires : goal.clear-requires
clear-requires c = record { end = omega (arith, c.requires.placed.x_len, c.requires.placed.order, c.requires.placed.end) }

pub negate-requires-clause-live : goal.negate-requires-clause-live
negate-requires-clause-live c = record { end = rw (c.clear.ensures.used, c.requires.placed.r_len) c.requires.placed.end }

pub negate-requires-clause-len : goal.negate-requires-clause-len
negate-requires-clause-len c = sym c.requires.placed.r_len

pub settle-requires-clause-placed : goal.settle-requires-clause-placed
settle-requires-clause-placed c =
    let both = both_written c.args.region.now c.clear.new.region c.negate.new.region c.args.x.now c.args.r.now (length c.args.c.now) _ _ c.requires.placed c.clear.ensures c.negate.ensures in
    still_placed c.args.region.now c.negate.new.region c.args.x.now c.args.r.now _ c.requires.placed both.kept

pub loop-l-init : goal.loop-l-init
loop-l-init c =
    let both = both_written c.args.region.now c.clear.new.region c.negate.new.region c.args.x.now c.args.r.now (length c.args.c.now) _ _ c.requires.placed c.clear.ensures c.negate.ensures in
    record {
      descent = c.settle.ensures.descent;
      good = c.settle.ensures.good;
      kept = kept_on c.args.region.now c.negate.new.region c.settle.new.region c.args.x.now c.args.r.now both.kept c.settle.ensures.kept;
    }

pub refine-requires-clause-bits : goal.refine-requires-clause-bits
refine-requires-clause-bits c = omega (arith, c.loop-l-test.true, c.requires.bits)

pub refine-requires-clause-placed : goal.refine-requires-clause-placed
refine-requires-clause-placed c = still_placed c.args.region.now c.loop-l.region c.args.x.now c.args.r.now _ c.requires.placed c.loop-l.invariant.kept

pub refine-requires-clause-descent : goal.refine-requires-clause-descent
refine-requires-clause-descent c = c.loop-l.invariant.descent

pub loop-l-preserved : goal.loop-l-preserved
loop-l-preserved c = record {
  descent = c.refine.ensures.descent;
  good = c.refine.ensures.good;
  kept = kept_on c.args.region.now c.loop-l.region c.refine.new.region c.args.x.now c.args.r.now c.loop-l.invariant.kept c.refine.ensures.kept;
}

pub returns-clause-good : goal.returns-clause-good
returns-clause-good c = c.loop-l.invariant.good

pub returns-clause-kept : goal.returns-clause-kept
returns-clause-kept c = c.loop-l.invariant.kept
