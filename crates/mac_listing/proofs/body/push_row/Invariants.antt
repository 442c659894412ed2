use Rattle.std.proofs.Common.{◌≡◌, ◌+◌, ◌++◌}
use Rattle.integer_algebra.specs.Sums.{at}
use Rattle.mac_listing.specs.Body.{groups, product_op}
use Rattle.mac_listing.proofs.body.push_row.Given as goal

abbrev pub invariant-loop-i : goal.invariant-loop-i
invariant-loop-i l = l.body.items ≡ l.fn.body.items ++ groups (λ k. product_op (l.first + k) (at l.row k) 0) l.i
