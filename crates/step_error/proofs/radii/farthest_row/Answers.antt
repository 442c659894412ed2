use Rattle.std.proofs.Common.{◌≡◌, ◌+◌, arith, sym, ◌∙◌}
use Rattle.integer_algebra.specs.Sizes.{size}
use Rattle.mat_int.specs.Matrix.{entry_of}
use Rattle.step_error.proofs.Farthest.{list_apart}
use Rattle.step_error.proofs.radii.farthest_row.Goals as goal

pub absolute_sum-requires : goal.absolute_sum-requires
absolute_sum-requires c =
    let m = c.args.mat.now in
    let r = c.args.radii.now in
    rw (c.row.ensures.len, c.row.ensures.value) (omega (arith, c.requires.small, list_apart m.cols (entry_of m c.args.i) (entry_of r c.args.i)))

pub absolute_sum-requires-2 : goal.absolute_sum-requires-2
absolute_sum-requires-2 c =
    let m = c.args.mat.now in
    let r = c.args.radii.now in
    rw (c.row-2.ensures.len, c.row-2.ensures.value, c.requires.pair.cols) (omega (arith, c.requires.small, list_apart m.cols (entry_of m c.args.i) (entry_of r c.args.i)))

numbers : (c : goal.After-absolute_sum-2) → c.absolute_sum.result ≡ size c.args.mat.now.cols (entry_of c.args.mat.now c.args.i)
numbers c = rw (c.row.ensures.len, c.row.ensures.value) at c.absolute_sum.ensures

radii : (c : goal.After-absolute_sum-2) → c.absolute_sum-2.result ≡ size c.args.mat.now.cols (entry_of c.args.radii.now c.args.i)
radii c = rw (c.row-2.ensures.len, c.row-2.ensures.value, c.requires.pair.cols) at c.absolute_sum-2.ensures

pub overflow_add-result : goal.overflow_add-result
overflow_add-result c =
    let apart = list_apart c.args.mat.now.cols (entry_of c.args.mat.now c.args.i) (entry_of c.args.radii.now c.args.i) in
    omega (arith, numbers c, radii c, c.requires.small, apart)

pub returns : goal.returns
returns c =
    (λ t. numbers c t + radii c t) ∙ sym (list_apart c.args.mat.now.cols (entry_of c.args.mat.now c.args.i) (entry_of c.args.radii.now c.args.i))
