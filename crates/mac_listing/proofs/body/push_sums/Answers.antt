use Rattle.qp_model.specs.machine.Controller.{numbers}
use Rattle.mac_listing.specs.Body.{sum_ops}
use Rattle.mac_listing.proofs.Groups.{grown_none, grown_more}
use Rattle.mac_listing.proofs.body.push_sums.Goals as goal

pub loop-j-init : goal.loop-j-init
loop-j-init c = grown_none (sum_ops (numbers c.args.c.now)) c.args.body.now.items

pub loop-j-preserved : goal.loop-j-preserved
loop-j-preserved c =
    grown_more (sum_ops (numbers c.args.c.now)) c.loop-j.j c.args.body.now.items c.loop-j.body.items c.push_sum.new.body.items c.loop-j.invariant c.in_ok-push_sum.ensures
