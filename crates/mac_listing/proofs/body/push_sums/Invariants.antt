use Rattle.std.proofs.Common.{◌≡◌, ◌++◌}
use Rattle.qp_model.specs.machine.Controller.{numbers}
use Rattle.mac_listing.specs.Body.{groups, sum_ops}
use Rattle.mac_listing.proofs.body.push_sums.Given as goal

abbrev pub invariant-loop-j : goal.invariant-loop-j
invariant-loop-j l = l.body.items ≡ l.fn.body.items ++ groups (sum_ops (numbers l.c)) l.j
