use Rattle.std.proofs.Common.{◌≡◌, ℕ, ℤ, pos, neg_ℤ, ◌+ℤ◌, ◌≤ℤ◌, unsigned_abs, ◌+◌, ◌*◌, ◌^◌, ◌<◌, ◌≤◌, rules, arith, FitsSigned}
use Rattle.std.specs.Int.{w128}
use Rattle.std.proofs.lemmas.Int.{ints, to_z-of_z}
use Rattle.std.proofs.Math.Nat.{pow-le-pow_right}
use Rattle.integer_algebra.proofs.PowerLaws.{two-pow-more}
use Rattle.enclosure.proofs.WideLaws.{first_quotient, next_quotient}
use Rattle.enclosure.proofs.wide.scaled_quotient.Goals as goal

-- the powers that are met
small_power : (i : ℕ) → i < 40 → 2 ^ i ≤ 2 ^ 39
small_power i h =
    let some : 0 < 2 = omega arith in
    let last : i ≤ 39 = omega arith in
    pow-le-pow_right some last

pub loop-step-init : goal.loop-step-init
loop-step-init c =
    let q : FitsSigned w128 c.floor_div.result = search rules in
    let r : FitsSigned w128 c.rem_euclid.result = search rules in
    let quotient = rw (to_z-of_z w128 _ c.ranges.num, to_z-of_z w128 _ c.ranges.den) at c.floor_div.ensures in
    let rest = rw (to_z-of_z w128 _ c.ranges.num, to_z-of_z w128 _ c.ranges.den) at c.rem_euclid.ensures.value in
    let size = rw (to_z-of_z w128 _ q) at c.unsigned_abs.ensures.value in
    rw (to_z-of_z w128 _ c.ranges.num, to_z-of_z w128 _ c.ranges.den, to_z-of_z w128 _ q, to_z-of_z w128 _ r) (record {
      value = first_quotient c.args.num c.args.den c.floor_div.result c.rem_euclid.result c.requires quotient rest (omega (arith, ints)) (omega (arith, ints));
      least = omega (arith, ints, size, c.if-unsigned_abs.false);
      most = omega (arith, ints, size, c.if-unsigned_abs.false);
    })

pub doubled-quotient-requires-clause-small : goal.doubled-quotient-requires-clause-small
doubled-quotient-requires-clause-small c =
    let power = small_power c.loop-step._step (omega (arith, c.loop-step-test.true)) in
    omega (arith, ints, power, c.loop-step.invariant.least, c.loop-step.invariant.most)

pub loop-step-preserved : goal.loop-step-preserved
loop-step-preserved c =
    let more = two-pow-more c.loop-step._step in
    record {
      value = next_quotient c.loop-step._step _ _ c.doubled-quotient.result.whole c.doubled-quotient.result.rest (c.doubled-quotient.ensures.value _ c.loop-step.invariant.value);
      least = omega (arith, ints, more, c.doubled-quotient.ensures.least, c.loop-step.invariant.least);
      most = omega (arith, ints, more, c.doubled-quotient.ensures.most, c.loop-step.invariant.most);
    }

pub returns-clause-value : goal.returns-clause-value
returns-clause-value c =
    let end : c.loop-step._step ≡ 40 = omega (arith, c.loop-step-test.false, c.loop-step.auto._step-end) in
    rw (end, to_z-of_z w128 _ c.ranges.num, to_z-of_z w128 _ c.ranges.den) at c.loop-step.invariant.value

pub returns-clause-small : goal.returns-clause-small
returns-clause-small c =
    let end : c.loop-step._step ≡ 40 = omega (arith, c.loop-step-test.false, c.loop-step.auto._step-end) in
    small c.loop-step.quotient.whole (rw end at c.loop-step.invariant.least) (rw end at c.loop-step.invariant.most)
  where
    small : (w : ℤ) → neg_ℤ (pos (2 ^ 86 * 2 ^ 40)) ≤ℤ w → (w +ℤ pos 1) ≤ℤ pos ((2 ^ 86 + 1) * 2 ^ 40) → unsigned_abs w ≤ 2 ^ 126 + 2 ^ 40
    small w h k = omega (arith, ints, h, k)
