use Rattle.std.proofs.Common.{◌∙◌, sym, subst, arith, refl, List, ℤ}
use Rattle.qp_model.specs.machine.Controller.{numbers}
use Rattle.qp_model.specs.machine.AbsoluteSums.{clamp_magnitudes, plan_magnitudes}
use Rattle.qp_model.specs.machine.Within.{AreWithin}
use Rattle.qp_model.proofs.MagnitudeLaws.{plan_within}
use Rattle.overflow_check.proofs.Sizes.{length-plan_reach}
use Rattle.fast_machine.specs.FastReady.{AreFastMultipliers}
use Rattle.fast_machine.proofs.FastRuns.{means_within}
use Rattle.fast_machine.proofs.FastRooms.{moved_ready}
use Rattle.fast_machine.proofs.FastWordRooms.{sum_setting, mean_word_room, sum_word_room}
use Rattle.fast_machine.proofs.word_step.word_step.Goals as goal
use Rattle.fast_machine.proofs.word_step.word_step.Goals.{After-word_means, After-word_plan}

pub word_means-requires : goal.word_means-requires
word_means-requires c = record { sound = c.requires.setting.sound; words = c.requires.setting.sized; step = c.requires.step; ready = c.requires.ready.rows; long = c.requires.ready.means_long }

-- the means and the plan are within their magnitudes
means_up : (c : After-word_means) → AreWithin c.word_means.new.means (clamp_magnitudes (numbers c.args.c.now))
means_up c =
    let n = numbers c.args.c.now in
    subst (λ (xs : List ℤ). AreWithin xs (clamp_magnitudes n)) (sym c.word_means.ensures) (means_within n c.args.k c.args.multipliers.now c.args.reached.now c.requires.setting.sound.form.sized.rest.clamp_low c.requires.ready.rows)

pub word_plan-requires : goal.word_plan-requires
word_plan-requires c = record { setting = sum_setting _ _ _ c.requires.setting; bases = c.requires.bases.entries; multipliers = means_up (goal.at.word_plan-requires c).After-word_means; plan = c.requires.ready.plan_long }

plan_up : (c : After-word_plan) → AreWithin c.word_plan.new.plan (plan_magnitudes (numbers c.args.c.now))
plan_up c =
    let n = numbers c.args.c.now in
    let means = subst (λ (xs : List ℤ). AreWithin xs (clamp_magnitudes n)) (sym c.word_means.ensures)
    (means_within n c.args.k c.args.multipliers.now c.args.reached.now c.requires.setting.sound.form.sized.rest.clamp_low c.requires.ready.rows) in
    subst (λ (xs : List ℤ). AreWithin xs (plan_magnitudes n)) (sym c.word_plan.ensures) (plan_within n c.args.state.now c.word_means.new.means c.requires.setting.state means)

pub word_moves-requires : goal.word_moves-requires
word_moves-requires c = record {
  setting = c.requires.setting;
  bases = c.requires.bases.rows;
  plan = plan_up (goal.at.word_moves-requires c).After-word_plan;
  step = c.requires.step;
  long = c.requires.ready.rows.multipliers_long;
  up = c.requires.ready.rows.own;
}

-- ---- the sums
pub word_add_times-requires : goal.word_add_times-requires
word_add_times-requires c =
    let n = numbers c.args.c.now in
    let s = c.requires.setting in
    let rows = c.requires.ready.rows in
    let moved = subst (λ (xs : List ℤ). AreFastMultipliers n c.args.k xs c.args.reached.now) (sym c.word_moves.ensures)
    (moved_ready n c.args.state.now c.word_plan.new.plan c.args.multipliers.now c.args.reached.now c.args.k s.sound rows) in
    record {
      step = omega (arith, c.requires.step, s.sound.form.sized.steps);
      long = rows.reached_long ∙ sym moved.multipliers_long;
      room = λ i lt. mean_word_room n c.word_moves.new.multipliers c.args.reached.now c.args.k i s.sound s.sized c.requires.step (omega (arith, lt, moved.multipliers_long)) moved;
    }

pub word_add_times-requires-2 : goal.word_add_times-requires-2
word_add_times-requires-2 c =
    let n = numbers c.args.c.now in
    let s = c.requires.setting in
    let up = plan_up (goal.at.word_add_times-requires-2 c).After-word_plan in
    let long = up.long ∙ length-plan_reach n in
    record {
      step = omega (arith, c.requires.step, s.sound.form.sized.steps);
      long = c.requires.ready.entries.sums_long ∙ sym long;
      room = λ j lt. sum_word_room n c.args.sums.now c.word_plan.new.plan c.args.k j s.sound s.sized c.requires.step (omega (arith, lt, long)) c.requires.ready.entries up;
    }

pub returns : goal.returns
returns c = rw (c.word_add_times-2.ensures, c.word_add_times.ensures, c.word_moves.ensures, c.word_plan.ensures, c.word_means.ensures) refl
