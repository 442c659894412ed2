use Rattle.std.proofs.Common.{◌-◌, arith}
use Rattle.integer_algebra.proofs.PowerLaws.{pow_positive}
use Rattle.step_error.proofs.SumFacts.{shifted}
use Rattle.step_error.proofs.LoweredLaws.{one_more, left_small}
use Rattle.step_error.proofs.means.added.Goals as goal

pub overflow_add-result-2 : goal.overflow_add-result-2
overflow_add-result-2 c =
    let a = c.args in
    rw (shifted a.own 40 (omega (arith, c.requires.row, c.requires.exponent)) (omega arith), shifted (a.s - a.own) 40 (omega (arith, c.requires.exponent)) (omega arith))
    (omega (arith, left_small a.s a.own a.x c.requires.row c.requires.exponent (pow_positive 2 a.own (omega arith)), c.requires.rest))

pub returns-clause-value : goal.returns-clause-value
returns-clause-value c =
    let a = c.args in
    rw (shifted a.own 40 (omega (arith, c.requires.row, c.requires.exponent)) (omega arith), shifted (a.s - a.own) 40 (omega (arith, c.requires.exponent)) (omega arith))
    (one_more a.s a.own a.sum.whole a.sum.rest a.x c.requires.row)

pub returns-clause-rest : goal.returns-clause-rest
returns-clause-rest c =
    let a = c.args in
    rw (shifted a.own 40 (omega (arith, c.requires.row, c.requires.exponent)) (omega arith), shifted (a.s - a.own) 40 (omega (arith, c.requires.exponent)) (omega arith))
    (omega (arith, left_small a.s a.own a.x c.requires.row c.requires.exponent (pow_positive 2 a.own (omega arith))))
