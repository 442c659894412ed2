use Rattle.std.proofs.Common.{◌≡◌, take, pos, map, get_or}
use Rattle.mat_int.proofs.matrix.Mat.column.Given as goal

abbrev pub invariant-loop-i : goal.invariant-loop-i
invariant-loop-i l = l.column.items ≡ map (λ row. get_or row l.j (pos 0)) (take l.i l.self.rows)
