use Rattle.std.proofs.Common.{◌≡◌, ◌≤◌, ◌^◌, true, false, length, refl, arith, ap}
use Rattle.std.specs.Int.{w128}
use Rattle.std.proofs.lemmas.Int.{to_z-of_z}
use Rattle.integer_algebra.specs.Sums.{at}
use Rattle.mat_int.specs.Matrix.{entry_of}
use Rattle.word_region.specs.Words.{RegionWords}
use Rattle.approx_inverse.specs.Spans.{cells}
use Rattle.approx_inverse.specs.DescentSize.{descent_of_column}
use Rattle.approx_inverse.proofs.BoundLaws.{roomy_from, column_small, entry_within, good_from}
use Rattle.approx_inverse.proofs.FormLaws.{not_fit}
use Rattle.approx_inverse.proofs.WordLaws.{freed_again, taken_placed}
use Rattle.approx_inverse.proofs.column.solve_column.Goals as goal

pub descend-requires-clause-task : goal.descend-requires-clause-task
descend-requires-clause-task c =
    let n = length c.args.c.now in
    let h = entry_of c.args.h.now in
    let system = c.requires.system in
    let room : descent_of_column n h (at c.args.c.now) c.args.floor c.args.f ≤ 2 ^ 126 = rw (to_z-of_z w128 _ c.ranges.floor) at (c.if-not-has_room.ensures.0 refl) in
    rw (to_z-of_z w128 _ c.ranges.floor) (λ l order. record {
      rows = system.rows;
      cols = system.cols;
      convex = system.convex;
      roomy = roomy_from n h c.args.c.now c.args.floor l c.args.f system.convex order room;
    })

pub returns-clause-good : goal.returns-clause-good
returns-clause-good c =
    let ws : c.release.new.self.words ≡ c.descend.new.region.words = ap (λ (w : RegionWords). w.words) c.release.ensures in
    rw ws (good_from (length c.args.c.now) (entry_of c.args.h.now) c.args.f c.args.c.now _ _ c.descend.ensures.descent c.descend.ensures.good)

pub returns-clause-within : goal.returns-clause-within
returns-clause-within c = λ j l.
    let ws : c.release.new.self.words ≡ c.descend.new.region.words = ap (λ (w : RegionWords). w.words) c.release.ensures in
    rw ws (entry_within (length c.args.c.now) (entry_of c.args.h.now) c.args.c.now (cells c.descend.new.region.words c.args.x.now.start) c.args.floor c.args.f c.args.f
    c.requires.system.convex (omega arith) c.descend.ensures.descent.low j l)

pub descend-requires-clause-column_small : goal.descend-requires-clause-column_small
descend-requires-clause-column_small c =
    column_small (length c.args.c.now) (entry_of c.args.h.now) (at c.args.c.now) c.args.floor c.args.f
    (rw (to_z-of_z w128 _ c.ranges.floor) at (c.if-not-has_room.ensures.0 refl))

pub has_room-requires-clause-rows : goal.has_room-requires-clause-rows
has_room-requires-clause-rows c = c.requires.system.rows

pub has_room-requires-clause-cols : goal.has_room-requires-clause-cols
has_room-requires-clause-cols c = c.requires.system.cols

pub has_room-requires-clause-floor_one : goal.has_room-requires-clause-floor_one
has_room-requires-clause-floor_one c = rw (to_z-of_z w128 _ c.ranges.floor) c.requires.system.convex.positive

pub has_room-requires-clause-bits : goal.has_room-requires-clause-bits
has_room-requires-clause-bits c = c.requires.bits

pub returns-then-not-has_room-clause-only : goal.returns-then-not-has_room-clause-only
returns-then-not-has_room-clause-only c = record { used = refl; size = refl; below = λ k l. refl; above = λ k l m. refl }

pub returns-then-not-has_room-clause-fits : goal.returns-then-not-has_room-clause-fits
returns-then-not-has_room-clause-fits c = rw (to_z-of_z w128 _ c.ranges.floor) at c.if-not-has_room.ensures

pub returns-then-not-has_room-clause-wide : goal.returns-then-not-has_room-clause-wide
returns-then-not-has_room-clause-wide c =
    let room = rw (to_z-of_z w128 _ c.ranges.floor) at c.if-not-has_room.ensures in
    (refl, not_fit _ false refl room.1)

pub unreachable-requires : goal.unreachable-requires
unreachable-requires c =
    let e : false ≡ true = c.in_default.ensures.fits.1 c.requires.free in
    cc

pub descend-requires-clause-bits : goal.descend-requires-clause-bits
descend-requires-clause-bits c = c.requires.bits

pub descend-requires-clause-placed : goal.descend-requires-clause-placed
descend-requires-clause-placed c =
    let taken = c.in-Some.ensures in
    taken_placed c.args.region.now c.take.new.self c.args.x.now c.in-Some.r (length c.args.c.now) c.requires.live c.requires.len c.requires.free c.mark-mark.ensures.inside taken.span
    taken.used taken.cleared.size

pub returns-clause-only : goal.returns-clause-only
returns-clause-only c =
    let taken = c.in-Some.ensures in
    freed_again c.args.region.now c.take.new.self c.descend.new.region c.release.new.self c.args.x.now c.in-Some.r (length c.args.c.now) c.mark-mark.result.used c.requires.live taken.span
    taken.cleared c.descend.ensures.kept (rw c.mark-mark.ensures.value refl) c.release.ensures

pub returns-clause-fits : goal.returns-clause-fits
returns-clause-fits c = rw (to_z-of_z w128 _ c.ranges.floor) at c.if-not-has_room.ensures
