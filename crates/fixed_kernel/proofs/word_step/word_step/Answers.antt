use Rattle.std.proofs.Common.{ap, sym, subst, arith, refl, List, ℤ, ◌∙◌}
use Rattle.qp_model.specs.machine.Controller.{numbers}
use Rattle.qp_model.specs.machine.Machine.{raised, next_multipliers, added}
use Rattle.qp_model.specs.machine.AbsoluteSums.{plan_magnitudes}
use Rattle.qp_model.specs.machine.Within.{AreWithin}
use Rattle.qp_model.proofs.MagnitudeLaws.{plan_within}
use Rattle.overflow_check.proofs.Sizes.{length-plan_reach}
use Rattle.fixed_kernel.specs.Raised.{unraised}
use Rattle.fixed_kernel.specs.Spans.{made_of}
use Rattle.fixed_kernel.proofs.Words.{made_as}
use Rattle.fixed_kernel.proofs.WordRooms.{sum_setting}
use Rattle.fixed_kernel.proofs.word_step.word_step.Goals as goal
use Rattle.fixed_kernel.proofs.word_step.word_step.Goals.{After-word_plan}

pub word_plan-requires : goal.word_plan-requires
word_plan-requires c = record { setting = sum_setting _ _ _ c.requires.setting; bases = c.requires.ready.entries; multipliers = c.requires.ready.multipliers_within; plan = c.requires.ready.plan_long }

-- the plan is within its reaches
within : (c : After-word_plan) → AreWithin c.word_plan.new.plan (plan_magnitudes (numbers c.args.c.now))
within c =
    let n = numbers c.args.c.now in
    subst (λ (plan : List ℤ). AreWithin plan (plan_magnitudes n)) (sym c.word_plan.ensures) (plan_within n c.args.state.now c.args.multipliers.now c.requires.setting.state c.requires.ready.multipliers_within)

pub word_multipliers-requires : goal.word_multipliers-requires
word_multipliers-requires c = record { setting = c.requires.setting; bases = c.requires.ready.rows; plan = within (goal.at.word_multipliers-requires c).After-word_plan; multipliers = c.requires.ready.multipliers_within }

pub word_add-requires : goal.word_add-requires
word_add-requires c =
    let plan = within (goal.at.word_add-requires c).After-word_plan in
    let ready = c.requires.ready in
    let long = plan.long ∙ length-plan_reach (numbers c.args.c.now) in
    record { long = long ∙ sym ready.sums_long; fit = λ k h. omega (arith, plan.each k, ready.room k (omega (arith, h, long))) }

pub returns : goal.returns
returns c =
    let n = numbers c.args.c.now in
    let state = c.args.state.now in
    let ls = c.args.multipliers.now in
    made_as _ _ _ _ _ _ _ refl c.word_multipliers.ensures c.word_add.ensures
    (ap (λ (p : List ℤ). made_of p (raised n (next_multipliers n state p (unraised n ls))) (added c.args.sums.now p)) c.word_plan.ensures)
