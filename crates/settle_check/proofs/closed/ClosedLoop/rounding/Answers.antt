use Rattle.std.proofs.Common.{◌≡◌, ◌≤◌, ◌*◌, pos, ◌∙◌, arith, rules, refl, ap, le_refl, FitsSigned}
use Rattle.std.specs.Int.{w128}
use Rattle.std.proofs.lemmas.Int.{to_z-of_z, to_z_pos}
use Rattle.std.proofs.lemmas.Nat.{mul-le}
use Rattle.integer_algebra.specs.Sums.{at}
use Rattle.settle_check.specs.Course.{plant, machine}
use Rattle.settle_check.specs.ClosedRows.{loop_over, rounded_size}
use Rattle.settle_check.proofs.closed.ClosedLoop.rounding.Goals as goal

pub returns-in_err-sum-clause-room : goal.returns-in_err-sum-clause-room
returns-in_err-sum-clause-room c =
    let d = plant c.args.self.now in
    let n = rounded_size d (at c.args.row.now) in
    let o = loop_over d (machine c.args.self.now) in
    let over : n ≤ o * n = omega (arith, mul-le 1 n o n c.loop_over.ensures.positive (le_refl n)) in
    rw c.from_residual.ensures (λ s. cc, λ h. c.in_err-sum.ensures.room.1 (omega (arith, over, h)))

pub returns-clause-value : goal.returns-clause-value
returns-clause-value c =
    let d = plant c.args.self.now in
    let f : FitsSigned w128 c.loop_over.result = search rules in
    let over : c.of-over.result.value ≡ pos (loop_over d (machine c.args.self.now)) = c.of-over.ensures.value ∙ to_z-of_z w128 _ f ∙ c.loop_over.ensures.value in
    let sum : c.of.result.value ≡ pos (rounded_size d (at c.args.row.now)) =
    c.of.ensures.value ∙ to_z_pos w128 c.in_ok-sum.sum (omega (arith, c.in_ok-sum.ensures.value, c.in_ok-sum.ensures.room.0 refl)) ∙ ap pos c.in_ok-sum.ensures.value in
    rw (over, sum) at c.times.ensures.value
