use Rattle.std.proofs.Common.{◌≡◌, ℕ, ◌+◌, ◌*◌, ◌^◌, ◌≤◌, Fits, arith, refl}
use Rattle.std.specs.Int.{w128}
use Rattle.std.proofs.Math.Nat.{mul-le-mul, mul-le-mul_right, one-le-mul}
use Rattle.integer_algebra.proofs.PowerLaws.{pow_positive}
use Rattle.qp_model.specs.bounds.Errors.{plan_bound}
use Rattle.step_error.specs.ErrorSums.{sums_of}
use Rattle.step_error.proofs.Ceilings.{quotient_is}
use Rattle.step_error.proofs.SumFacts.{bounded, shifted, power_small, plan_small, within_of}
use Rattle.step_error.proofs.errors.plan_bound.Goals as goal

value : (c : goal.After-div_ceil-push) → c.args.e.now.radii.spread * (c.args.e.now.lead + c.div_ceil-push.result) + 1 ≡ plan_bound (sums_of c.args.e.now) c.args.f
value c =
    let e = c.args.e.now in
    let power = shifted (c.args.f + 2) 50 (omega (arith, c.requires.bits)) (omega arith) in
    let push = quotient_is _ _ _ e.tail (2 ^ (c.args.f + 2) * e.rho) (one-le-mul (pow_positive 2 (c.args.f + 2) (omega arith)) (bounded e c.requires.sums).some)
    c.div_ceil-push.ensures refl (λ i. power i * e.rho) in
    (λ i. e.radii.spread * (e.lead + push i) + 1)

small : (c : goal.After-div_ceil-push) → c.args.e.now.radii.spread * (c.args.e.now.lead + c.div_ceil-push.result) + 1 ≤ 2 ^ 86
small c = within_of (value c) (plan_small (sums_of c.args.e.now) c.args.f (bounded c.args.e.now c.requires.sums)).1

pub overflow_mul-f : goal.overflow_mul-f
overflow_mul-f c =
    rw (shifted (c.args.f + 2) 50 (omega (arith, c.requires.bits)) (omega arith))
    (omega (arith, mul-le-mul (power_small (c.args.f + 2) 50 (omega (arith, c.requires.bits))) (bounded c.args.e.now c.requires.sums).weight))

pub div_ceil-push-requires : goal.div_ceil-push-requires
div_ceil-push-requires c =
    rw (shifted (c.args.f + 2) 50 (omega (arith, c.requires.bits)) (omega arith))
    (one-le-mul (pow_positive 2 (c.args.f + 2) (omega arith)) (bounded c.args.e.now c.requires.sums).some)

pub overflow_add-result : goal.overflow_add-result
overflow_add-result c = close _ (bounded c.args.e.now c.requires.sums).spread_some (small c)
  where
    close : {k : ℕ} (x : ℕ) → 1 ≤ k → k * x + 1 ≤ 2 ^ 86 → Fits w128 x
    close {k} x h o = omega (arith, o, mul-le-mul_right x h)

pub overflow_mul-result : goal.overflow_mul-result
overflow_mul-result c = omega (arith, small c)

pub overflow_add-result-2 : goal.overflow_add-result-2
overflow_add-result-2 c = omega (arith, small c)

pub returns : goal.returns
returns c = value c
