use Rattle.std.proofs.Common.{◌≡◌, ◌+◌, arith, length, sym, ◌∙◌}
use Rattle.integer_algebra.specs.Sums.{at}
use Rattle.integer_algebra.specs.Sizes.{size}
use Rattle.step_error.proofs.Farthest.{list_apart}
use Rattle.step_error.proofs.radii.farthest_list.Goals as goal

pub absolute_sum-requires : goal.absolute_sum-requires
absolute_sum-requires c =
    omega (arith, c.requires.small, list_apart (length c.args.numbers.now) (at c.args.numbers.now) (at c.args.radii.now))

pub absolute_sum-requires-2 : goal.absolute_sum-requires-2
absolute_sum-requires-2 c =
    rw c.requires.pair (omega (arith, c.requires.small, list_apart (length c.args.numbers.now) (at c.args.numbers.now) (at c.args.radii.now)))

radii : (c : goal.After-absolute_sum-2) → c.absolute_sum-2.result ≡ size (length c.args.numbers.now) (at c.args.radii.now)
radii c = rw c.requires.pair at c.absolute_sum-2.ensures

pub overflow_add-result : goal.overflow_add-result
overflow_add-result c =
    let apart = list_apart (length c.args.numbers.now) (at c.args.numbers.now) (at c.args.radii.now) in
    omega (arith, c.absolute_sum.ensures, radii c, c.requires.small, apart)

pub returns : goal.returns
returns c =
    (λ t. c.absolute_sum.ensures t + radii c t) ∙ sym (list_apart (length c.args.numbers.now) (at c.args.numbers.now) (at c.args.radii.now))
