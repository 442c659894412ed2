use Rattle.std.proofs.Common.{◌<◌, length, refl, sym, ◌∙◌}
use Rattle.std.specs.Int.{w128}
use Rattle.std.proofs.lemmas.Int.{to_z-of_z}
use Rattle.mat_int.specs.Matrix.{entry_of}
use Rattle.approx_inverse.specs.Descent.{aim}
use Rattle.approx_inverse.specs.Spans.{cells}
use Rattle.approx_inverse.proofs.MoveLaws.{measure_falls}
use Rattle.approx_inverse.proofs.WordLaws.{kept_on, still_placed}
use Rattle.approx_inverse.proofs.descent.settle.Goals as goal

pub loop-j-smaller : goal.loop-j-smaller
loop-j-smaller c =
    measure_falls (length c.args.c.now) (entry_of c.args.h.now) (aim c.args.f c.args.c.now)
    (cells c.loop-j.region.words c.args.x.now.start) (cells c.move_entry.new.region.words c.args.x.now.start) c.args.floor
    c.requires.task.convex c.move_entry.ensures.lower

pub loop-j-init : goal.loop-j-init
loop-j-init c = record {
  descent = c.requires.descent;
  kept = record { used = refl; size = refl; below = λ k l. refl; between = λ k l o. refl; above = λ k l. refl };
}

pub find_move-requires-clause-square : goal.find_move-requires-clause-square
find_move-requires-clause-square c = c.requires.task.cols ∙ sym c.requires.task.rows

pub find_move-requires-clause-len : goal.find_move-requires-clause-len
find_move-requires-clause-len c = c.requires.placed.r_len ∙ sym c.requires.task.rows

pub find_move-requires-clause-live : goal.find_move-requires-clause-live
find_move-requires-clause-live c =
    let p = still_placed c.args.region.now c.loop-j.region c.args.x.now c.args.r.now _ c.requires.placed c.loop-j.invariant.kept in
    record { end = rw p.r_len p.end }

pub find_move-requires-clause-small : goal.find_move-requires-clause-small
find_move-requires-clause-small c = λ k l.
    let m : k < length c.args.c.now = rw c.requires.placed.r_len at l in
    rw (c.loop-j.invariant.descent.rest k m) (c.requires.task.roomy.rest (cells c.loop-j.region.words c.args.x.now.start) c.loop-j.invariant.descent.low k m)

pub move_entry-requires-clause-task : goal.move_entry-requires-clause-task
move_entry-requires-clause-task c = rw (to_z-of_z w128 _ c.ranges.floor) c.requires.task

pub move_entry-requires-clause-placed : goal.move_entry-requires-clause-placed
move_entry-requires-clause-placed c = still_placed c.args.region.now c.loop-j.region c.args.x.now c.args.r.now _ c.requires.placed c.loop-j.invariant.kept

pub move_entry-requires-clause-descent : goal.move_entry-requires-clause-descent
move_entry-requires-clause-descent c = c.loop-j.invariant.descent

pub loop-j-preserved : goal.loop-j-preserved
loop-j-preserved c = record {
  descent = c.move_entry.ensures.descent;
  kept = kept_on c.args.region.now c.loop-j.region c.move_entry.new.region c.args.x.now c.args.r.now c.loop-j.invariant.kept c.move_entry.ensures.kept;
}

pub returns-clause-descent : goal.returns-clause-descent
returns-clause-descent c = c.loop-j.invariant.descent

pub returns-clause-kept : goal.returns-clause-kept
returns-clause-kept c = c.loop-j.invariant.kept

pub move_entry-requires-clause-inside : goal.move_entry-requires-clause-inside
move_entry-requires-clause-inside c = rw c.requires.placed.r_len at c.in-Some.ensures.0

pub move_entry-requires-clause-wide : goal.move_entry-requires-clause-wide
move_entry-requires-clause-wide c = c.in-Some.ensures.1

pub returns-clause-good : goal.returns-clause-good
returns-clause-good c = λ j l. c.in_default.ensures j (rw c.requires.placed.r_len l)
