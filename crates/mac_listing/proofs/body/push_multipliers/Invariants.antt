use Rattle.std.proofs.Common.{◌≡◌, ◌++◌}
use Rattle.qp_model.specs.machine.Controller.{numbers}
use Rattle.mac_listing.specs.Body.{groups, multiplier_ops}
use Rattle.mac_listing.proofs.body.push_multipliers.Given as goal

abbrev pub invariant-loop-i : goal.invariant-loop-i
invariant-loop-i l = l.body.items ≡ l.fn.body.items ++ groups (multiplier_ops (numbers l.c)) l.i
