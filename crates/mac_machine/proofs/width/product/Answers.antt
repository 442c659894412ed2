use Rattle.std.specs.Int.{w128}
use Rattle.std.proofs.lemmas.Int.{to_z-of_z}
use Rattle.mac_machine.proofs.Rooms.{no_room}
use Rattle.mac_machine.proofs.width.product.Goals as goal

pub returns-in-None : goal.returns-in-None
returns-in-None c = no_room c.args.w _ c.requires (rw (to_z-of_z w128 c.args.a c.ranges.a, to_z-of_z w128 c.args.b c.ranges.b) at c.in-None.ensures)
