use Rattle.std.proofs.Common.{◌≡◌, ◌∙◌, ap, sym, arith, refl, length, List, ℤ}
use Rattle.qp_model.specs.machine.Controller.{numbers}
use Rattle.qp_model.specs.machine.Machine.{raised, next_multipliers, added}
use Rattle.overflow_check.proofs.Sizes.{length-clamp_reach, length-plan_reach}
use Rattle.fixed_kernel.specs.Raised.{unraised}
use Rattle.fixed_kernel.specs.Spans.{made_of}
use Rattle.fixed_kernel.proofs.Raised.{first_moved}
use Rattle.fixed_kernel.proofs.Words.{made_as}
use Rattle.fixed_kernel.proofs.step.make_step.Goals.{then-first, else-first}
use Rattle.fixed_kernel.proofs.step.make_step.Goals as goal

pub make_plan-requires : goal.make_plan-requires
make_plan-requires c = record { setting = c.requires.setting; multipliers = c.requires.ready.multipliers_within; plan = c.requires.ready.plan_long }

pub move_raised-requires : goal.move_raised-requires
move_raised-requires c = record { setting = c.requires.setting; plan = c.make_plan.ensures.within; multipliers = c.requires.ready.multipliers_within }

-- ---- the sums
pub add_plan-requires : goal.add_plan-requires
add_plan-requires c =
    let plan = c.make_plan.ensures.within in
    let ready = c.requires.ready in
    let long = plan.long ∙ length-plan_reach (numbers c.args.c.now) in
    record { long = long ∙ sym ready.sums_long; fit = λ k h. omega (arith, plan.each k, ready.room k (omega (arith, h, long))) }

-- ---- the step
pub returns : goal.returns
returns c =
    let n = numbers c.args.c.now in
    let state = c.args.state.now in
    let ls = c.args.multipliers.now in
    let plan = c.make_plan.new.plan in
    let long : length ls ≡ length n.bounds = c.requires.ready.multipliers_within.long ∙ length-clamp_reach n in
    let moved : c.if-first.multipliers ≡ raised n (next_multipliers n state plan (unraised n ls)) = elim c.if-first.branch [
      | then-first w ↦ w.multipliers-is ∙ w.move_multipliers.ensures ∙ first_moved n c.requires.setting.sound.form.sized w.if-first.true state plan ls long
      | else-first w ↦ w.multipliers-is ∙ w.move_raised.ensures
    ] in
    made_as _ _ _ _ _ _ _ refl moved c.add_plan.ensures
    (ap (λ (p : List ℤ). made_of p (raised n (next_multipliers n state p (unraised n ls))) (added c.args.sums.now p)) c.make_plan.ensures.value)
