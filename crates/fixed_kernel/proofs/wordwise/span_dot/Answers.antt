use Rattle.std.proofs.Common.{rules, arith, FitsSigned, refl}
use Rattle.std.specs.Int.{w64}
use Rattle.std.proofs.lemmas.Int.{to_z-of_z}
use Rattle.fixed_kernel.proofs.WordSpans.{span_dot_is, span_abs_le, span_half}
use Rattle.fixed_kernel.proofs.wordwise.span_dot.Goals as goal

pub sum_in_words-requires-clause-left : goal.sum_in_words-requires-clause-left
sum_in_words-requires-clause-left c = λ t. span_half c.args.xs.now c.args.from c.args.to (c.requires.left t)

pub sum_in_words-requires-clause-right : goal.sum_in_words-requires-clause-right
sum_in_words-requires-clause-right c = λ t. span_half c.args.ys.now c.args.from c.args.to (c.requires.right t)

pub sum_in_words-requires-clause-room : goal.sum_in_words-requires-clause-room
sum_in_words-requires-clause-room c =
    rw (to_z-of_z w64 _ c.ranges.start) (omega (arith, span_abs_le c.args.xs.now c.args.ys.now c.args.from c.args.to, c.requires.room))

pub returns : goal.returns
returns c =
    let made : FitsSigned w64 c.sum_in_words.result = search rules in
    rw (to_z-of_z w64 _ made, c.sum_in_words.ensures, to_z-of_z w64 _ c.ranges.start, span_dot_is c.args.xs.now c.args.ys.now c.args.from c.args.to c.requires.order c.requires.before c.requires.behind) refl
