use Rattle.command_make.proofs.Asking.{stay_is}
use Rattle.command_make.proofs.command.stay.Goals as goal

pub make_asked-requires : goal.make_asked-requires
make_asked-requires g c = rw c.asked_of.ensures (stay_is c.args.words.now c.args.disturbed c.requires)

pub returns : goal.returns
returns g c = rw c.asked_of.ensures at c.make_asked.ensures
