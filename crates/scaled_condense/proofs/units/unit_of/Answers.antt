use Rattle.std.proofs.Common.{refl}
use Rattle.scaled_condense.proofs.UnitFacts.{unit_holds}
use Rattle.scaled_condense.proofs.units.unit_of.Goals as goal

pub returns : goal.returns
returns c = unit_holds c.args.over c.in_ok-out.out.items _ c.args.count c.args.j c.whole.result refl c.whole.ensures c.requires.entry c.in_ok-out.ensures
