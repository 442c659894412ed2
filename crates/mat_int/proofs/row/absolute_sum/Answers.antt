use Rattle.std.proofs.Common.{length, unsigned_abs, get_or, pos, rules, arith, FitsSigned}
use Rattle.std.specs.Int.{w128}
use Rattle.std.proofs.lemmas.Int.{to_z-of_z}
use Rattle.integer_algebra.specs.Sums.{at}
use Rattle.integer_algebra.proofs.SizeLaws.{amount_next}
use Rattle.mat_int.proofs.row.absolute_sum.Goals as goal

pub overflow_add-sum : goal.overflow_add-sum
overflow_add-sum c =
    let xs = c.args.xs.now in
    let x : FitsSigned w128 (get_or xs c.loop-x.x-index (pos 0)) = search rules in
    omega (
      arith,
      amount_next c.loop-x.x-index (length xs) (λ i. unsigned_abs (at xs i)) c.loop-x-test.true,
      c.loop-x.invariant,
      c.requires,
      rw (to_z-of_z w128 _ x) at c.unsigned_abs-sum.ensures.value,
    )
