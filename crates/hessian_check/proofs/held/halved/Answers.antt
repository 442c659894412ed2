use Rattle.std.proofs.Common.{◌≡◌, length, arith}
use Rattle.mat_int.specs.Matrix.{entry_of, zero_matrix}
use Rattle.hessian_check.specs.Steps.{half_of}
use Rattle.hessian_check.proofs.FillLaws.{first_zero, first_all}
use Rattle.hessian_check.proofs.held.halved.Goals as goal

pub loop-i-init : goal.loop-i-init
loop-i-init c =
    let n = length c.args.mat.now.rows in
    let e : c.in_ok-out.out ≡ zero_matrix n n = rw (c.rows.ensures.count, c.rows-2.ensures.count) at c.in_ok-out.ensures in
    first_zero n _ c.in_ok-out.out e

pub returns : goal.returns
returns c = first_all (length c.args.mat.now.rows) (half_of (entry_of c.args.mat.now)) c.loop-i.out c.loop-i.i (omega arith) c.loop-i.invariant
