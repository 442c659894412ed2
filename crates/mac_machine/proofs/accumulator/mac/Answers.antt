use Rattle.std.proofs.Common.{FitsSigned, rules}
use Rattle.std.specs.Int.{w128}
use Rattle.std.proofs.lemmas.Int.{to_z-of_z}
use Rattle.integer_algebra.specs.Sums.{at}
use Rattle.mac_machine.proofs.Rooms.{mac_some, mac_none, word_none}
use Rattle.mac_machine.proofs.accumulator.mac.Goals as goal

pub returns-in_err-word : goal.returns-in_err-word
returns-in_err-word c =
    let read : FitsSigned w128 (at c.args.words.now c.args.a) = search rules in
    word_none c.args.w c.args.acc c.args.c _ c.from_residual.result c.from_residual.ensures (rw (to_z-of_z w128 _ read) at c.in_err-word.ensures)

pub returns-in_err-product : goal.returns-in_err-product
returns-in_err-product c =
    let read : FitsSigned w128 (at c.args.words.now c.args.a) = search rules in
    let raised : FitsSigned w128 c.in_ok-word.word = search rules in
    let word = rw (to_z-of_z w128 _ read) at c.in_ok-word.ensures in
    mac_none c.args.w c.args.acc c.args.c _ c.in_ok-word.word c.from_residual-in_err-product.result c.from_residual-in_err-product.ensures word.1
    (rw (to_z-of_z w128 c.args.c c.ranges.c, to_z-of_z w128 _ raised) at c.in_err-product.ensures)

pub returns : goal.returns
returns c =
    let read : FitsSigned w128 (at c.args.words.now c.args.a) = search rules in
    let raised : FitsSigned w128 c.in_ok-word.word = search rules in
    let made : FitsSigned w128 c.in_ok-product.product = search rules in
    let word = rw (to_z-of_z w128 _ read) at c.in_ok-word.ensures in
    let product = rw (to_z-of_z w128 c.args.c c.ranges.c, to_z-of_z w128 _ raised) at c.in_ok-product.ensures in
    mac_some c.args.w c.args.acc c.args.c _ c.in_ok-word.word c.in_ok-product.product c.sum.result word.0 word.1 product.0 product.1
    (rw (to_z-of_z w128 c.args.acc c.ranges.acc, to_z-of_z w128 _ made) at c.sum.ensures)
