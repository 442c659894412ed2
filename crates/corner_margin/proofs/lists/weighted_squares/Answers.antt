use Rattle.std.proofs.Common.{pos, length, get_or, rules}
use Rattle.std.specs.Int.{w128}
use mir.Val.{SFits}
use Rattle.integer_algebra.specs.Sums.{at}
use Rattle.corner_margin.proofs.SquareFacts.{read_square, read_term, read_next_fits, read_next}
use Rattle.corner_margin.proofs.lists.weighted_squares.Goals as goal

pub overflow_mul-sum : goal.overflow_mul-sum
overflow_mul-sum c =
    let w : SFits w128 (get_or c.args.weights.now c.loop-i.i (pos 0)) = search rules in
    let x : SFits w128 (get_or c.args.xs.now c.loop-i.i (pos 0)) = search rules in
    read_square (length c.args.xs.now) (at c.args.weights.now) (at c.args.xs.now) c.requires.fits c.loop-i.i c.loop-i-test.true w x

pub overflow_mul-sum-in-loop-i : goal.overflow_mul-sum-in-loop-i
overflow_mul-sum-in-loop-i c =
    let w : SFits w128 (get_or c.args.weights.now c.loop-i.i (pos 0)) = search rules in
    let x : SFits w128 (get_or c.args.xs.now c.loop-i.i (pos 0)) = search rules in
    read_term (length c.args.xs.now) (at c.args.weights.now) (at c.args.xs.now) c.requires.fits c.loop-i.i c.loop-i-test.true w x

pub overflow_add-sum : goal.overflow_add-sum
overflow_add-sum c =
    let w : SFits w128 (get_or c.args.weights.now c.loop-i.i (pos 0)) = search rules in
    let x : SFits w128 (get_or c.args.xs.now c.loop-i.i (pos 0)) = search rules in
    read_next_fits (length c.args.xs.now) (at c.args.weights.now) (at c.args.xs.now) c.requires.fits c.loop-i.i c.loop-i-test.true w x _ c.loop-i.invariant

pub loop-i-preserved : goal.loop-i-preserved
loop-i-preserved c =
    let w : SFits w128 (get_or c.args.weights.now c.loop-i.i (pos 0)) = search rules in
    let x : SFits w128 (get_or c.args.xs.now c.loop-i.i (pos 0)) = search rules in
    read_next (length c.args.xs.now) (at c.args.weights.now) (at c.args.xs.now) c.requires.fits c.loop-i.i c.loop-i-test.true w x _ c.loop-i.invariant
