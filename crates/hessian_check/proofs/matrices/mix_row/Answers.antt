use Rattle.std.proofs.Common.{◌≡◌, length, arith, rules, FitsSigned, refl}
use Rattle.std.specs.Int.{w128}
use Rattle.std.proofs.lemmas.Int.{to_z-of_z}
use Rattle.mat_int.specs.Matrix.{entry_of, with_entry}
use Rattle.hessian_check.specs.Filling.{HasFirstEntries}
use Rattle.hessian_check.specs.StepMatrices.{mixed}
use Rattle.hessian_check.proofs.FillLaws.{first_start, first_more, first_row}
use Rattle.hessian_check.proofs.MatrixLaws.{mixed_fits}
use Rattle.hessian_check.proofs.matrices.mix_row.Goals as goal

pub overflow_mul-x : goal.overflow_mul-x
overflow_mul-x c =
    let i = c.args.i in
    let j = c.loop-j.j in
    let f = mixed_fits c.args.x (entry_of c.args.a.now i j) c.args.y (entry_of c.args.b.now i j) (c.requires.room i j c.requires.inside (omega arith)) in
    let p : FitsSigned w128 c.at.result = search rules in
    rw (to_z-of_z w128 _ c.ranges.x, to_z-of_z w128 _ p, c.at.ensures) f.0

pub overflow_mul-y : goal.overflow_mul-y
overflow_mul-y c =
    let i = c.args.i in
    let j = c.loop-j.j in
    let f = mixed_fits c.args.x (entry_of c.args.a.now i j) c.args.y (entry_of c.args.b.now i j) (c.requires.room i j c.requires.inside (omega arith)) in
    let q : FitsSigned w128 c.at-in-loop-j.result = search rules in
    rw (to_z-of_z w128 _ c.ranges.y, to_z-of_z w128 _ q, c.at-in-loop-j.ensures) f.1

pub overflow_sub-x : goal.overflow_sub-x
overflow_sub-x c =
    let i = c.args.i in
    let j = c.loop-j.j in
    let f = mixed_fits c.args.x (entry_of c.args.a.now i j) c.args.y (entry_of c.args.b.now i j) (c.requires.room i j c.requires.inside (omega arith)) in
    let p : FitsSigned w128 c.at.result = search rules in
    let q : FitsSigned w128 c.at-in-loop-j.result = search rules in
    rw (to_z-of_z w128 _ c.ranges.x, to_z-of_z w128 _ p, c.at.ensures, to_z-of_z w128 _ f.0, to_z-of_z w128 _ c.ranges.y, to_z-of_z w128 _ q, c.at-in-loop-j.ensures, to_z-of_z w128 _ f.1) f.2

pub loop-j-init : goal.loop-j-init
loop-j-init c = rw (to_z-of_z w128 _ c.ranges.x, to_z-of_z w128 _ c.ranges.y) (first_start (length c.args.a.now.rows) (mixed c.args.x (entry_of c.args.a.now) c.args.y (entry_of c.args.b.now)) _ c.args.i c.requires.before)

pub loop-j-preserved : goal.loop-j-preserved
loop-j-preserved c =
    let n = length c.args.a.now.rows in
    let i = c.args.i in
    let j = c.loop-j.j in
    let m = mixed c.args.x (entry_of c.args.a.now) c.args.y (entry_of c.args.b.now) in
    let f = mixed_fits c.args.x (entry_of c.args.a.now i j) c.args.y (entry_of c.args.b.now i j) (c.requires.room i j c.requires.inside (omega arith)) in
    let p : FitsSigned w128 c.at.result = search rules in
    let q : FitsSigned w128 c.at-in-loop-j.result = search rules in
    let e : c.set.new.self ≡ with_entry c.loop-j.out i j (m i j) =
    rw (to_z-of_z w128 _ c.ranges.x, to_z-of_z w128 _ p, c.at.ensures, to_z-of_z w128 _ f.0, to_z-of_z w128 _ c.ranges.y, to_z-of_z w128 _ q, c.at-in-loop-j.ensures, to_z-of_z w128 _ f.1, to_z-of_z w128 _ f.2) at c.set.ensures in
    let v : HasFirstEntries n m c.loop-j.out i j = rw (to_z-of_z w128 _ c.ranges.x, to_z-of_z w128 _ c.ranges.y) at c.loop-j.invariant in
    rw (to_z-of_z w128 _ c.ranges.x, to_z-of_z w128 _ c.ranges.y) (first_more n m c.loop-j.out c.set.new.self i j (m i j) c.requires.inside (omega arith) e refl v)

pub returns : goal.returns
returns c =
    let n = length c.args.a.now.rows in
    let m = mixed c.args.x (entry_of c.args.a.now) c.args.y (entry_of c.args.b.now) in
    let v : HasFirstEntries n m c.loop-j.out c.args.i c.loop-j.j = rw (to_z-of_z w128 _ c.ranges.x, to_z-of_z w128 _ c.ranges.y) at c.loop-j.invariant in
    first_row n m c.loop-j.out c.args.i c.loop-j.j (omega arith) v
