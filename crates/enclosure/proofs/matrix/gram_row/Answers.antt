use Rattle.std.proofs.Common.{◌≡◌, ◌<◌, ap, arith, refl, below_more}
use Rattle.frac_scaled.specs.Enclosures.{Enclosure}
use Rattle.enclosure.proofs.GramLaws.{are_more, are_row}
use Rattle.enclosure.proofs.matrix.gram_row.Goals as goal

pub loop-l-preserved : goal.loop-l-preserved
loop-l-preserved c =
    let l : c.loop-l.l < c.args.x.now.mid.cols = omega (arith, c.cols-l-end.ensures, c.loop-l-test.true) in
    let value = c.in_ok-gram_entry.ensures.value in
    record {
      made = are_more c.args.j c.loop-l.l _ _ _ _ _ _ _ _ c.loop-l.invariant.made c.requires.row l c.set.ensures.mid c.set.ensures.rad
          (ap (λ (e : Enclosure). e.mid) value) (ap (λ (e : Enclosure). e.rad) value);
      near = below_more _ _ c.loop-l.invariant.near (c.in_ok-gram_entry.ensures.room.0 refl);
    }

pub returns-clause-made : goal.returns-clause-made
returns-clause-made c =
    let end : c.loop-l.l ≡ c.args.x.now.mid.cols = omega (arith, c.cols-l-end.ensures, c.loop-l.auto.l-end, c.loop-l-test.false) in
    are_row _ _ _ _ _ (rw end at c.loop-l.invariant.made)

pub gram_entry-requires-clause-shape : goal.gram_entry-requires-clause-shape
gram_entry-requires-clause-shape c = c.requires.shape

pub gram_entry-requires-clause-signs : goal.gram_entry-requires-clause-signs
gram_entry-requires-clause-signs c = c.requires.signs

pub gram_entry-requires-clause-some : goal.gram_entry-requires-clause-some
gram_entry-requires-clause-some c = c.requires.some

pub gram_entry-requires-clause-small : goal.gram_entry-requires-clause-small
gram_entry-requires-clause-small c = c.requires.small

pub gram_entry-requires-clause-row : goal.gram_entry-requires-clause-row
gram_entry-requires-clause-row c = c.requires.row
