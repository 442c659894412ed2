use Rattle.c_writer.proofs.Each.{short_is}
use Rattle.c_writer.proofs.parts_test.is_short.Goals as goal

pub returns : goal.returns
returns c = short_is c.args.size c.args.k c.min.result c.min.ensures c.requires
