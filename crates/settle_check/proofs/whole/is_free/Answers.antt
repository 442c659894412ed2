use Rattle.std.proofs.Common.{◌<◌, arith, rules, FitsSigned}
use Rattle.std.specs.Int.{w128}
use Rattle.std.proofs.lemmas.Int.{ints, to_z-of_z}
use Rattle.integer_algebra.proofs.SizeLaws.{at_size}
use Rattle.mat_int.specs.Matrix.{entry_of}
use Rattle.settle_check.proofs.whole.is_free.Goals as goal

pub returns-then-at-ne0 : goal.returns-then-at-ne0
returns-then-at-ne0 c =
    let f : FitsSigned w128 c.at.result = search rules in
    let lt : c.loop-l.l < c.args.parts.now.inputs = omega (arith, c.loop-l-test.true, c.loop-l.invariant.end) in
    (λ t. cc, λ z. absurd (c.if-at-ne0.true (omega (arith, ints, at_size c.loop-l.l c.args.parts.now.inputs (entry_of c.args.parts.now.b c.args.i) lt, z, c.at.ensures, to_z-of_z w128 _ f))))
