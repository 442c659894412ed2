use Rattle.std.proofs.Common.{rules, FitsSigned, arith, pos, get_or-set_same, get_or-set_other, below_more, ◌∙◌}
use Rattle.std.specs.Int.{w128}
use Rattle.std.proofs.lemmas.Int.{to_z-of_z}
use Rattle.integer_algebra.specs.Sums.{at}
use Rattle.controller_maker.proofs.rounding.round_line.Goals as goal

pub loop-j-init : goal.loop-j-init
loop-j-init c = λ k l. absurd (omega arith)

pub loop-j-preserved : goal.loop-j-preserved
loop-j-preserved c =
    let j = c.loop-j.j in
    let x : FitsSigned w128 (at c.args.xs.now j) = search rules in
    let e : FitsSigned w128 c.round_entry.result = search rules in
    below_more _ _
    (λ k l. get_or-set_other c.loop-j.out j k _ (pos 0) (omega arith) ∙ c.loop-j.invariant k l)
    (get_or-set_same c.loop-j.out j _ (pos 0) (omega (arith, c.loop-j.auto.out, c.requires.len)) ∙ to_z-of_z w128 _ e ∙ (rw (to_z-of_z w128 _ x) at c.round_entry.ensures))

pub returns : goal.returns
returns c = λ j l. (rw (to_z-of_z w128 _ c.ranges.den) at (c.loop-j.invariant j (omega arith)))
