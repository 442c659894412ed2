use Rattle.qp_model.specs.machine.Controller.{numbers}
use Rattle.mac_listing.specs.Body.{multiplier_ops}
use Rattle.mac_listing.proofs.Groups.{grown_none, grown_more}
use Rattle.mac_listing.proofs.body.push_multipliers.Goals as goal

pub loop-i-init : goal.loop-i-init
loop-i-init c = grown_none (multiplier_ops (numbers c.args.c.now)) c.args.body.now.items

pub loop-i-preserved : goal.loop-i-preserved
loop-i-preserved c =
    grown_more (multiplier_ops (numbers c.args.c.now)) c.loop-i.i c.args.body.now.items c.loop-i.body.items c.push_multiplier.new.body.items c.loop-i.invariant c.in_ok-push_multiplier.ensures
