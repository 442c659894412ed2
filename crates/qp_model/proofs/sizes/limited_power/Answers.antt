use Rattle.std.proofs.Common.{◌≡◌, ◌^◌, arith, ap, ◌∙◌}
use Rattle.qp_model.proofs.SizeFacts.{power_next, power_under}
use Rattle.qp_model.proofs.sizes.limited_power.Goals as goal

pub returns-in_err-power : goal.returns-in_err-power
returns-in_err-power c = rw c.from_residual.ensures
    (λ h. c.in_err-power.ensures (power_under c.args.base c.loop.counter c.args.exponent _ _ c.requires c.loop-test.true c.loop.invariant.0 h))

pub loop-preserved : goal.loop-preserved
loop-preserved c = (
  power_next c.args.base c.loop.counter _ _ c.loop.invariant.0 c.in_ok-power.ensures.1,
  rw c.in_ok-power.ensures.1 c.in_ok-power.ensures.0,
)

pub returns : goal.returns
returns c =
    let all : c.loop.counter ≡ c.args.exponent = omega arith in
    let power : c.loop.power ≡ c.args.base ^ c.args.exponent = c.loop.invariant.0 ∙ ap (λ n. c.args.base ^ n) all in
    (rw (← power) c.loop.invariant.1, power)
