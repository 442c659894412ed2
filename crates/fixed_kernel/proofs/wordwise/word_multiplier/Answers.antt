use Rattle.std.proofs.Common.{refl, rules, FitsSigned}
use Rattle.std.specs.Int.{w64}
use Rattle.std.proofs.lemmas.Int.{to_z-of_z}
use Rattle.fixed_kernel.proofs.WordSums.{word_next_fits}
use Rattle.fixed_kernel.proofs.wordwise.word_multiplier.Goals as goal

pub overflow_add-old : goal.overflow_add-old
overflow_add-old c =
    let floor : FitsSigned w64 c.word_shift-moved.result = search rules in
    rw (to_z-of_z w64 _ floor, c.word_shift-moved.ensures, to_z-of_z w64 _ c.ranges.sum, to_z-of_z w64 _ c.ranges.old)
    (word_next_fits c.args.sum c.args.old c.args.f c.requires.next)

pub returns : goal.returns
returns c =
    let floor : FitsSigned w64 c.word_shift-moved.result = search rules in
    let max : FitsSigned w64 c.max.result = search rules in
    let min : FitsSigned w64 c.min.result = search rules in
    let next = word_next_fits c.args.sum c.args.old c.args.f c.requires.next in
    rw (
      to_z-of_z w64 _ min,
      c.min.ensures.value,
      to_z-of_z w64 _ max,
      to_z-of_z w64 _ c.ranges.top,
      c.max.ensures.value,
      to_z-of_z w64 _ floor,
      c.word_shift-moved.ensures,
      to_z-of_z w64 _ c.ranges.sum,
      to_z-of_z w64 _ c.ranges.old,
      to_z-of_z w64 _ next,
    ) refl
