use Rattle.std.proofs.Common.{◌≡◌, ◌≤◌, max, length, arith, ◌∙◌, ap}
use Rattle.integer_algebra.specs.Sizes.{size}
use Rattle.integer_algebra.specs.Sums.{at}
use Rattle.mat_int.specs.Matrix.{entry_of}
use Rattle.qp_model.proofs.SizeFacts.{greatest_more, size_taken}
use Rattle.qp_model.proofs.sizes.greatest_width.Goals as goal

pub loop-r-preserved : goal.loop-r-preserved
loop-r-preserved c =
    let wide : c.args.width ≤ length c.row.result.now = omega (arith, c.row.ensures.len, c.requires.width) in
    let sum : c.absolute_sum.result ≡ size c.args.width (entry_of c.args.mat.now c.loop-r.r) =
    c.absolute_sum.ensures.sum ∙ size_taken c.args.width c.row.result.now wide ∙ ap (λ xs. size c.args.width (at xs)) c.row.ensures.value in
    let most : c.max-most.result ≡ max c.loop-r.most c.absolute_sum.result = c.max-most.ensures in
    omega (arith, greatest_more c.loop-r.r (λ r. size c.args.width (entry_of c.args.mat.now r)), sum, c.loop-r.invariant, most)
