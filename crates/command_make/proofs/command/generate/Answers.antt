use Rattle.command_make.proofs.Asking.{generate_is}
use Rattle.command_make.proofs.command.generate.Goals as goal

pub make_asked-requires : goal.make_asked-requires
make_asked-requires g c = rw c.asked_of.ensures (generate_is c.args.words.now c.requires)

pub returns : goal.returns
returns g c = rw c.asked_of.ensures at c.make_asked.ensures
