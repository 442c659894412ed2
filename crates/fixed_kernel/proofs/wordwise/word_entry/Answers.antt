use Rattle.std.proofs.Common.{◌^◌, rules, FitsSigned}
use Rattle.std.specs.Int.{w64}
use Rattle.std.proofs.lemmas.Int.{to_z-of_z}
use Rattle.fixed_kernel.proofs.WordSums.{minus_is, word_minus_fits}
use Rattle.fixed_kernel.proofs.wordwise.word_entry.Goals as goal

pub overflow_sub-result : goal.overflow_sub-result
overflow_sub-result c =
    let floor : FitsSigned w64 c.word_shift.result = search rules in
    rw (to_z-of_z w64 _ floor, c.word_shift.ensures, to_z-of_z w64 _ c.ranges.sum) (word_minus_fits c.args.sum (2 ^ c.args.bits) c.requires.room)

pub returns : goal.returns
returns c =
    let floor : FitsSigned w64 c.word_shift.result = search rules in
    rw (to_z-of_z w64 _ floor, c.word_shift.ensures, to_z-of_z w64 _ c.ranges.sum, to_z-of_z w64 _ (word_minus_fits c.args.sum (2 ^ c.args.bits) c.requires.room)) (minus_is _)
