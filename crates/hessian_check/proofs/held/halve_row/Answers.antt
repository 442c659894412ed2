use Rattle.std.proofs.Common.{◌≡◌, length, arith, rules, FitsSigned}
use Rattle.std.specs.Int.{w128}
use Rattle.std.proofs.lemmas.Int.{to_z-of_z}
use Rattle.mat_int.specs.Matrix.{entry_of, with_entry}
use Rattle.hessian_check.specs.Steps.{half_of}
use Rattle.hessian_check.proofs.FillLaws.{first_start, first_more, first_row}
use Rattle.hessian_check.proofs.held.halve_row.Goals as goal

pub loop-j-init : goal.loop-j-init
loop-j-init c = first_start (length c.args.mat.now.rows) (half_of (entry_of c.args.mat.now)) _ c.args.i c.requires.before

pub loop-j-preserved : goal.loop-j-preserved
loop-j-preserved c =
    let n = length c.args.mat.now.rows in
    let m = half_of (entry_of c.args.mat.now) in
    let i = c.args.i in
    let j = c.loop-j.j in
    let p : FitsSigned w128 c.at.result = search rules in
    let q : FitsSigned w128 c.floor_shift.result = search rules in
    let v : c.floor_shift.result ≡ m i j = rw (to_z-of_z w128 _ p, c.at.ensures) at c.floor_shift.ensures.value in
    let e : c.set.new.self ≡ with_entry c.loop-j.out i j c.floor_shift.result = rw (to_z-of_z w128 _ q) at c.set.ensures in
    first_more n m c.loop-j.out c.set.new.self i j c.floor_shift.result c.requires.inside (omega arith) e v c.loop-j.invariant

pub returns : goal.returns
returns c = first_row (length c.args.mat.now.rows) (half_of (entry_of c.args.mat.now)) c.loop-j.out c.args.i c.loop-j.j (omega arith) c.loop-j.invariant
