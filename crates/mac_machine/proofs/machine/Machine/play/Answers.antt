use Rattle.std.proofs.Common.{◌∙◌, ap, subst}
use Rattle.std.specs.Prelude.{IsOk, ◌↔◌}
use Rattle.mac_listing.specs.Listing.{Instructions, instructions}
use Rattle.mac_machine.specs.Machine.{NeverTraps}
use Rattle.mac_machine.specs.Box.{IsInBox}
use Rattle.mac_machine.specs.Playing.{Playing}
use Rattle.mac_machine.proofs.Stopping.{ends_where}
use Rattle.mac_machine.proofs.machine.Machine.play.Goals as goal

pub returns-clause-ok : goal.returns-clause-ok
returns-clause-ok c =
    let own = c.parts-parts.ensures.value ∙ ap (λ (p : Playing). p.listing) c.self.view_is in
    subst (λ (l : Instructions). IsOk c.play-answer.result ↔ (IsInBox l c.args.state.now × NeverTraps l c.args.state.now)) own
    (ends_where (instructions c.parts-parts.result.now) c.args.state.now c.play-answer.result c.play-answer.ensures.inside c.play-answer.ensures.room c.play-answer.ensures.stops)
