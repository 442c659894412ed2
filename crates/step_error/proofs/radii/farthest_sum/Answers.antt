use Rattle.std.proofs.Common.{◌≡◌, ◌+◌, arith, length, sym, ◌∙◌}
use Rattle.integer_algebra.specs.Sizes.{size, amount}
use Rattle.mat_int.specs.Matrix.{entry_of}
use Rattle.step_error.proofs.Farthest.{matrix_apart}
use Rattle.step_error.proofs.radii.farthest_sum.Goals as goal

pub matrix_sum-requires : goal.matrix_sum-requires
matrix_sum-requires c =
    let m = c.args.mat.now in
    omega (arith, c.requires.small, matrix_apart (length m.rows) m.cols (entry_of m) (entry_of c.args.radii.now))

pub matrix_sum-requires-2 : goal.matrix_sum-requires-2
matrix_sum-requires-2 c =
    let m = c.args.mat.now in
    rw (c.requires.pair.rows, c.requires.pair.cols) (omega (arith, c.requires.small, matrix_apart (length m.rows) m.cols (entry_of m) (entry_of c.args.radii.now)))

radii : (c : goal.After-matrix_sum-2) → c.matrix_sum-2.result ≡ amount (length c.args.mat.now.rows) (λ i. size c.args.mat.now.cols (entry_of c.args.radii.now i))
radii c = rw (c.requires.pair.rows, c.requires.pair.cols) at c.matrix_sum-2.ensures

pub overflow_add-result : goal.overflow_add-result
overflow_add-result c =
    let m = c.args.mat.now in
    let apart = matrix_apart (length m.rows) m.cols (entry_of m) (entry_of c.args.radii.now) in
    omega (arith, c.matrix_sum.ensures, radii c, c.requires.small, apart)

pub returns : goal.returns
returns c =
    let m = c.args.mat.now in
    (λ t. c.matrix_sum.ensures t + radii c t) ∙ sym (matrix_apart (length m.rows) m.cols (entry_of m) (entry_of c.args.radii.now))
