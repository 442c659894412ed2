use Rattle.std.proofs.Common.{◌<◌, length, arith}
use Rattle.integer_algebra.specs.Sizes.{size}
use Rattle.integer_algebra.proofs.SizeLaws.{amount_next, amount_term, amount_more}
use Rattle.mat_int.specs.Matrix.{entry_of}
use Rattle.step_error.proofs.radii.matrix_sum.Goals as goal

pub absolute_sum-sum-requires : goal.absolute_sum-sum-requires
absolute_sum-sum-requires c =
    let i = c.loop-i.i in
    let m = c.args.mat.now in
    let l : i < length m.rows = omega (arith, c.loop-i-test.true, c.rows-i-end.ensures.count) in
    rw (c.row.ensures.len, c.row.ensures.value) (omega (arith, c.requires, amount_term i (length m.rows) (λ k. size m.cols (entry_of m k)) l))

pub overflow_add-sum : goal.overflow_add-sum
overflow_add-sum c =
    let i = c.loop-i.i in
    let m = c.args.mat.now in
    let l : i < length m.rows = omega (arith, c.loop-i-test.true, c.rows-i-end.ensures.count) in
    let sum = rw (c.row.ensures.len, c.row.ensures.value) at c.absolute_sum-sum.ensures in
    omega (arith, sum, c.loop-i.invariant, c.requires, amount_next i (length m.rows) (λ k. size m.cols (entry_of m k)) l)

pub loop-i-preserved : goal.loop-i-preserved
loop-i-preserved c =
    let i = c.loop-i.i in
    let m = c.args.mat.now in
    let sum = rw (c.row.ensures.len, c.row.ensures.value) at c.absolute_sum-sum.ensures in
    omega (arith, sum, c.loop-i.invariant, amount_more i (λ k. size m.cols (entry_of m k)))
