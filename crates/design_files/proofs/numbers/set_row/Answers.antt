use Rattle.std.proofs.Common.{◌∙◌, get_or, pos, FitsSigned, rules, arith}
use Rattle.std.specs.Int.{w128}
use Rattle.std.proofs.lemmas.Int.{to_z-of_z}
use Rattle.mat_int.specs.Matrix.{row_of}
use Rattle.design_files.proofs.NumberLaws.{set_more}
use Rattle.design_files.proofs.numbers.set_row.Goals as goal

pub loop-j-preserved : goal.loop-j-preserved
loop-j-preserved c =
    let m = c.args.matrix.now in
    let xs = c.args.numbers.now in
    let fits : FitsSigned w128 (get_or xs c.loop-j.j (pos 0)) = search rules in
    c.set.ensures ∙ rw (c.loop-j.invariant, to_z-of_z w128 _ fits) (set_more m c.args.i c.loop-j.j (row_of m c.args.i) xs c.requires.in_range c.loop-j-test.true (omega arith))
