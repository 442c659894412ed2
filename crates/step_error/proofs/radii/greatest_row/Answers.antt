use Rattle.std.proofs.Common.{◌<◌, length, arith}
use Rattle.integer_algebra.specs.Sizes.{size}
use Rattle.mat_int.specs.Matrix.{entry_of}
use Rattle.qp_model.proofs.SizeFacts.{greatest_more}
use Rattle.step_error.proofs.radii.greatest_row.Goals as goal

pub absolute_sum-requires : goal.absolute_sum-requires
absolute_sum-requires c =
    let i = c.loop-i.i in
    let m = c.args.mat.now in
    let l : i < length m.rows = omega (arith, c.loop-i-test.true, c.rows-i-end.ensures.count) in
    rw (c.row.ensures.len, c.row.ensures.value) (omega (arith, c.requires i l))

pub loop-i-preserved : goal.loop-i-preserved
loop-i-preserved c =
    let i = c.loop-i.i in
    let m = c.args.mat.now in
    let sum = rw (c.row.ensures.len, c.row.ensures.value) at c.absolute_sum.ensures in
    omega (arith, c.max-most.ensures, sum, c.loop-i.invariant, greatest_more i (λ k. size m.cols (entry_of m k)))
