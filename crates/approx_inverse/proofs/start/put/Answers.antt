use Rattle.approx_inverse.proofs.WordLaws.{lent}
use Rattle.approx_inverse.proofs.start.put.Goals as goal

pub returns : goal.returns
returns c =
    rw c.copy_from_slice.ensures.after
    (lent c.args.region.now c.args.s.now c.args.numbers.now c.cells_mut.ensures.within c.requires.len)
