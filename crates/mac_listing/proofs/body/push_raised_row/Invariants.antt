use Rattle.std.proofs.Common.{◌≡◌, ◌+◌, ◌++◌}
use Rattle.integer_algebra.specs.Sums.{at}
use Rattle.mat_int.specs.Matrix.{row_of}
use Rattle.qp_model.specs.machine.Controller.{numbers}
use Rattle.qp_model.specs.machine.Machine.{lowering_of}
use Rattle.mac_listing.specs.Body.{groups, product_op}
use Rattle.mac_listing.proofs.body.push_raised_row.Given as goal

abbrev pub invariant-loop-i : goal.invariant-loop-i
invariant-loop-i l =
    l.body.items ≡ l.fn.body.items ++ groups (λ k. product_op (l.c.n + k) (at (row_of l.c.w_mat l.j) k) (lowering_of (numbers l.c) k)) l.i
