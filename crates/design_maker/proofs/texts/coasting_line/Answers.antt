use Rattle.std.proofs.Common.{◌≡◌, ◌∙◌, arith}
use Rattle.design_maker.proofs.PolicyLines.{one_stage_more, policy_line_is}
use Rattle.design_maker.proofs.texts.coasting_line.Goals as goal

pub loop-preserved : goal.loop-preserved
loop-preserved c = c.in_ok-push_str.ensures.bytes ∙ rw c.loop.invariant (one_stage_more c.loop.counter)

pub returns : goal.returns
returns c =
    let all : c.loop.counter ≡ c.args.stages = omega (arith, c.loop-test.false, c.loop.auto.counter-end) in
    rw (policy_line_is c.args.stages, ← all) c.loop.invariant
