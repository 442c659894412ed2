use Rattle.std.proofs.Common.{◌≡◌, ◌++◌, take, drop, slice_set}
use Rattle.mat_int.specs.Matrix.{row_of}
use Rattle.design_files.proofs.numbers.set_row.Given as goal

abbrev pub invariant-loop-j : goal.invariant-loop-j
invariant-loop-j l =
    l.matrix ≡ record l.fn.matrix { rows = slice_set l.fn.matrix.rows l.i (take l.j l.numbers ++ drop l.j (row_of l.fn.matrix l.i)) }
