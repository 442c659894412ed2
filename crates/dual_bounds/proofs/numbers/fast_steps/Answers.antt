use Rattle.std.proofs.Common.{◌+◌, ◌^◌, pos, unsigned_abs, rules, arith, refl, FitsSigned}
use Rattle.std.specs.Int.{w128}
use Rattle.std.proofs.lemmas.Bool.{false≢true}
use Rattle.std.proofs.lemmas.Int.{to_z-of_z, ints}
use Rattle.qp_model.specs.bounds.Choices.{step_count}
use Rattle.dual_bounds.proofs.NumberFacts.{shifted}
use Rattle.dual_bounds.proofs.QuarterLaws.{IsLeastOf, counted, many, few}
use Rattle.dual_bounds.proofs.numbers.fast_steps.Goals as goal

pub whole-requires-clause-fits : goal.whole-requires-clause-fits
whole-requires-clause-fits c =
    rw (to_z-of_z w128 _ c.ranges.r) (shifted (c.args.s + 43) 83 (2 ^ 42) c.args.r (omega (arith, c.requires.exponent)) c.requires.some c.requires.narrow)

pub least_quarter-k-requires-clause-some : goal.least_quarter-k-requires-clause-some
least_quarter-k-requires-clause-some c =
    let n = counted c.args.s c.args.r c.args.step_target _ _ _ c.requires.some c.requires.target (rw (to_z-of_z w128 _ c.ranges.r) at c.whole.ensures.value)
    c.whole.ensures.small (rw (to_z-of_z w128 _ c.ranges.step_target) at c.unsigned_abs-target.ensures.value) c.div_ceil-count.ensures in
    n.some

pub least_quarter-k-requires-clause-small : goal.least_quarter-k-requires-clause-small
least_quarter-k-requires-clause-small c =
    let n = counted c.args.s c.args.r c.args.step_target _ _ _ c.requires.some c.requires.target (rw (to_z-of_z w128 _ c.ranges.r) at c.whole.ensures.value)
    c.whole.ensures.small (rw (to_z-of_z w128 _ c.ranges.step_target) at c.unsigned_abs-target.ensures.value) c.div_ceil-count.ensures in
    n.small

pub returns-then-k-gt65534-clause-many : goal.returns-then-k-gt65534-clause-many
returns-then-k-gt65534-clause-many c =
    let n = counted c.args.s c.args.r c.args.step_target _ _ _ c.requires.some c.requires.target (rw (to_z-of_z w128 _ c.ranges.r) at c.whole.ensures.value)
    c.whole.ensures.small (rw (to_z-of_z w128 _ c.ranges.step_target) at c.unsigned_abs-target.ensures.value) c.div_ceil-count.ensures in
    let count = step_count (c.args.s + 2) (unsigned_abs c.args.r) (unsigned_abs c.args.step_target) in
    let k : FitsSigned w128 c.least_quarter-k.result = search rules in
    let least : IsLeastOf (pos count) c.least_quarter-k.result = rw n.same at c.least_quarter-k.ensures in
    (λ e. many count (unsigned_abs c.least_quarter-k.result) least.1 (omega (arith, ints, least.0, c.if-k-gt65534.true)), λ h. refl)

pub returns-then-k-gt65534-clause-told : goal.returns-then-k-gt65534-clause-told
returns-then-k-gt65534-clause-told c =
    let n = counted c.args.s c.args.r c.args.step_target _ _ _ c.requires.some c.requires.target (rw (to_z-of_z w128 _ c.ranges.r) at c.whole.ensures.value)
    c.whole.ensures.small (rw (to_z-of_z w128 _ c.ranges.step_target) at c.unsigned_abs-target.ensures.value) c.div_ceil-count.ensures in
    let count = step_count (c.args.s + 2) (unsigned_abs c.args.r) (unsigned_abs c.args.step_target) in
    let k : FitsSigned w128 c.least_quarter-k.result = search rules in
    let least : IsLeastOf (pos count) c.least_quarter-k.result = rw n.same at c.least_quarter-k.ensures in
    rw (to_z-of_z w128 _ k) least

pub returns-clause-value : goal.returns-clause-value
returns-clause-value c =
    let n = counted c.args.s c.args.r c.args.step_target _ _ _ c.requires.some c.requires.target (rw (to_z-of_z w128 _ c.ranges.r) at c.whole.ensures.value)
    c.whole.ensures.small (rw (to_z-of_z w128 _ c.ranges.step_target) at c.unsigned_abs-target.ensures.value) c.div_ceil-count.ensures in
    let count = step_count (c.args.s + 2) (unsigned_abs c.args.r) (unsigned_abs c.args.step_target) in
    let k : FitsSigned w128 c.least_quarter-k.result = search rules in
    let least : IsLeastOf (pos count) c.least_quarter-k.result = rw n.same at c.least_quarter-k.ensures in
    rw (to_z-of_z w128 _ k) least.1

pub returns-clause-few : goal.returns-clause-few
returns-clause-few c =
    let n = counted c.args.s c.args.r c.args.step_target _ _ _ c.requires.some c.requires.target (rw (to_z-of_z w128 _ c.ranges.r) at c.whole.ensures.value)
    c.whole.ensures.small (rw (to_z-of_z w128 _ c.ranges.step_target) at c.unsigned_abs-target.ensures.value) c.div_ceil-count.ensures in
    let count = step_count (c.args.s + 2) (unsigned_abs c.args.r) (unsigned_abs c.args.step_target) in
    let k : FitsSigned w128 c.least_quarter-k.result = search rules in
    let least : IsLeastOf (pos count) c.least_quarter-k.result = rw n.same at c.least_quarter-k.ensures in
    rw (to_z-of_z w128 _ k) (omega (arith, ints, least.0, c.if-k-gt65534.false))

pub returns-clause-many : goal.returns-clause-many
returns-clause-many c =
    let n = counted c.args.s c.args.r c.args.step_target _ _ _ c.requires.some c.requires.target (rw (to_z-of_z w128 _ c.ranges.r) at c.whole.ensures.value)
    c.whole.ensures.small (rw (to_z-of_z w128 _ c.ranges.step_target) at c.unsigned_abs-target.ensures.value) c.div_ceil-count.ensures in
    let count = step_count (c.args.s + 2) (unsigned_abs c.args.r) (unsigned_abs c.args.step_target) in
    let k : FitsSigned w128 c.least_quarter-k.result = search rules in
    let least : IsLeastOf (pos count) c.least_quarter-k.result = rw n.same at c.least_quarter-k.ensures in
    (λ e. absurd (false≢true e), λ h. absurd (omega (arith, h, few count (unsigned_abs c.least_quarter-k.result) least.1 (omega (arith, ints, least.0, c.if-k-gt65534.false)))))
