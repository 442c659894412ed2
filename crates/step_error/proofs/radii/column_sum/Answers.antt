use Rattle.std.proofs.Common.{rules, ◌≡◌, ◌<◌, length, unsigned_abs, arith, ap, ◌∙◌}
use Rattle.std.specs.Int.{w128}
use mir.Val.{SFits}
use Rattle.mat_int.specs.Matrix.{entry_of}
use Rattle.integer_algebra.proofs.SizeLaws.{amount_next}
use Rattle.step_error.proofs.SumFacts.{read_size}
use Rattle.step_error.proofs.radii.column_sum.Goals as goal

pub overflow_add-sum : goal.overflow_add-sum
overflow_add-sum c =
    let i = c.loop-i.i in
    let m = c.args.mat.now in
    let f : SFits w128 c.at.result = search rules in
    let v : c.unsigned_abs-sum.result ≡ unsigned_abs (entry_of m i c.args.j) = read_size _ _ f c.unsigned_abs-sum.ensures.value ∙ ap unsigned_abs c.at.ensures in
    let l : i < length m.rows = omega (arith, c.loop-i-test.true, c.rows-i-end.ensures.count) in
    omega (arith, v, c.loop-i.invariant, c.requires.small, amount_next i (length m.rows) (λ k. unsigned_abs (entry_of m k c.args.j)) l)
