use Rattle.std.proofs.Common.{◌≢◌, ◌<◌, ◌∙◌, pos, sym, rules, arith}
use Rattle.qp_model.specs.problem.Parts.{design_of}
use Rattle.stay_check.proofs.RowFacts.{some_input}
use Rattle.stay_check.proofs.rows.has_no_input.Goals as goal

pub returns-then-stage_limit_at-ne0 : goal.returns-then-stage_limit_at-ne0
returns-then-stage_limit_at-ne0 c =
    let some : c.stage_limit_at.result ≢ pos 0 = search rules in
    let lt : c.loop-l.l < c.args.parts.now.inputs = omega arith in
    sym (some_input c.args.parts.now.inputs c.loop-l.l ((design_of c.args.parts.now).stage_limit c.args.i).of_input lt (λ e. some (c.stage_limit_at.ensures.value ∙ e)))
