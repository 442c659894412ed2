use Rattle.enclosure.proofs.GramLaws.{none_negative}
use Rattle.enclosure.proofs.types.EncMat.zero.Goals as goal

pub invariant_of-result : goal.invariant_of-result
invariant_of-result c = record { sound = rw (c.in_ok-zero.ensures, c.in_ok-zero-2.ensures) (none_negative c.args.rows c.args.cols) }

pub returns-clause-mid : goal.returns-clause-mid
returns-clause-mid c = c.in_ok-zero.ensures

pub returns-clause-rad : goal.returns-clause-rad
returns-clause-rad c = c.in_ok-zero-2.ensures
