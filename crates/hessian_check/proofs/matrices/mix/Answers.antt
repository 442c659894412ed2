use Rattle.std.proofs.Common.{◌≡◌, length, arith}
use Rattle.std.specs.Int.{w128}
use Rattle.std.proofs.lemmas.Int.{to_z-of_z}
use Rattle.mat_int.specs.Matrix.{entry_of, zero_matrix}
use Rattle.hessian_check.specs.Filling.{HasFirstRows}
use Rattle.hessian_check.specs.StepMatrices.{mixed}
use Rattle.hessian_check.proofs.FillLaws.{first_zero, first_all}
use Rattle.hessian_check.proofs.matrices.mix.Goals as goal

pub loop-i-init : goal.loop-i-init
loop-i-init c =
    let n = length c.args.a.now.rows in
    let e : c.in_ok-out.out ≡ zero_matrix n n = rw (c.rows.ensures.count, c.rows-2.ensures.count) at c.in_ok-out.ensures in
    first_zero n _ c.in_ok-out.out e

pub loop-i-preserved : goal.loop-i-preserved
loop-i-preserved c = rw (to_z-of_z w128 _ c.ranges.x, to_z-of_z w128 _ c.ranges.y) (rw (to_z-of_z w128 _ c.ranges.x, to_z-of_z w128 _ c.ranges.y) at c.mix_row.ensures)

pub returns : goal.returns
returns c =
    let n = length c.args.a.now.rows in
    let m = mixed c.args.x (entry_of c.args.a.now) c.args.y (entry_of c.args.b.now) in
    let v : HasFirstRows n m c.loop-i.out c.loop-i.i = rw (to_z-of_z w128 _ c.ranges.x, to_z-of_z w128 _ c.ranges.y) at c.loop-i.invariant in
    first_all n m c.loop-i.out c.loop-i.i (omega arith) v

pub mix_row-requires-clause-shape : goal.mix_row-requires-clause-shape
mix_row-requires-clause-shape c = c.requires.shape

pub mix_row-requires-clause-room : goal.mix_row-requires-clause-room
mix_row-requires-clause-room c = rw (to_z-of_z w128 _ c.ranges.x, to_z-of_z w128 _ c.ranges.y) c.requires.room

pub mix_row-requires-clause-inside : goal.mix_row-requires-clause-inside
mix_row-requires-clause-inside c = rw c.rows-i-end.ensures.count at c.loop-i-test.true

pub mix_row-requires-clause-before : goal.mix_row-requires-clause-before
mix_row-requires-clause-before c = c.loop-i.invariant
