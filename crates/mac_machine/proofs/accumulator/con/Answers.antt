use Rattle.std.proofs.Common.{FitsSigned, rules}
use Rattle.std.specs.Int.{w128}
use Rattle.std.proofs.lemmas.Int.{to_z-of_z}
use Rattle.mac_machine.proofs.Rooms.{con_some}
use Rattle.mac_machine.proofs.accumulator.con.Goals as goal

pub returns : goal.returns
returns c =
    let fits : FitsSigned w128 c.in_ok-constant.constant = search rules in
    let constant = rw (to_z-of_z w128 c.args.c c.ranges.c) at c.in_ok-constant.ensures in
    con_some c.args.w c.args.acc _ c.in_ok-constant.constant c.sum.result constant.0 constant.1
    (rw (to_z-of_z w128 c.args.acc c.ranges.acc, to_z-of_z w128 _ fits) at c.sum.ensures)
