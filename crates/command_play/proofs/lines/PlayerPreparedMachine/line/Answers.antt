use Rattle.std.proofs.Common.{subst}
use Rattle.mac_machine.specs.Box.{IsFirstOutsideBox}
use Rattle.mac_machine.specs.Traps.{Stops}
use Rattle.mac_machine.specs.declared.stop.Stop.{Stop}
use Rattle.mac_machine.proofs.Stopping.{not_in_box}
use Rattle.command_play.proofs.lines.PlayerPreparedMachine.line.Goals as goal

pub unreachable-requires : goal.unreachable-requires
unreachable-requires c =
    let l = c.args.self.now.machine.listing in
    let xi = c.args.state.now in
    let k = c.in-Err-OutsideBox.field-0-0 in
    let outside : IsFirstOutsideBox l xi k = subst (λ (s : Stop). Stops l xi s) c.in-Err-OutsideBox.field-0-is c.in-Err-OutsideBox.ensures.stops in
    not_in_box l xi k outside c.requires.holds
