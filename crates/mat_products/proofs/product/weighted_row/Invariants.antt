use Rattle.std.proofs.Common.{◌≡◌, take, map, ◌*ℤ◌}
use Rattle.mat_products.proofs.product.weighted_row.Given as goal

abbrev pub invariant-loop-j : goal.invariant-loop-j
invariant-loop-j l = take l.j l.out ≡ map (λ entry. l.weight *ℤ entry) (take l.j l.row)
