use Rattle.std.proofs.Common.{◌∙◌, sym, subst, arith, refl, List, ℤ}
use Rattle.qp_model.specs.machine.Controller.{numbers}
use Rattle.overflow_check.proofs.Sizes.{length-plan_reach}
use Rattle.fast_machine.specs.FastReady.{AreFastMultipliers}
use Rattle.fast_machine.proofs.FastRooms.{mean_room, moved_ready, sum_room}
use Rattle.fast_machine.proofs.step.make_step.Goals as goal

pub make_means-requires : goal.make_means-requires
make_means-requires c = record { sound = c.requires.setting.sound; step = c.requires.step; ready = c.requires.ready.rows; long = c.requires.ready.means_long }

pub make_plan-requires : goal.make_plan-requires
make_plan-requires c = record { setting = c.requires.setting; means = c.make_means.ensures.within; plan = c.requires.ready.plan_long }

pub move_multipliers-requires : goal.move_multipliers-requires
move_multipliers-requires c = record {
  setting = c.requires.setting;
  plan = c.make_plan.ensures.within;
  step = c.requires.step;
  long = c.requires.ready.rows.multipliers_long;
  up = c.requires.ready.rows.own;
}

-- ---- the sums
pub add_times-requires : goal.add_times-requires
add_times-requires c =
    let n = numbers c.args.c.now in
    let k = c.args.k in
    let rows = c.requires.ready.rows in
    let moved = subst (λ (xs : List ℤ). AreFastMultipliers n k xs c.args.reached.now) (sym c.move_multipliers.ensures)
    (moved_ready n c.args.state.now c.make_plan.new.plan c.args.multipliers.now c.args.reached.now k c.requires.setting.sound rows) in
    record {
      step = omega (arith, c.requires.step, c.requires.setting.sound.form.sized.steps);
      long = rows.reached_long ∙ sym moved.multipliers_long;
      room = λ i lt. mean_room n c.move_multipliers.new.multipliers c.args.reached.now k i c.requires.setting.sound c.requires.step (omega (arith, lt, moved.multipliers_long)) moved;
    }

pub add_times-requires-2 : goal.add_times-requires-2
add_times-requires-2 c =
    let n = numbers c.args.c.now in
    let long = c.make_plan.ensures.within.long ∙ length-plan_reach n in
    record {
      step = omega (arith, c.requires.step, c.requires.setting.sound.form.sized.steps);
      long = c.requires.ready.entries.sums_long ∙ sym long;
      room = λ j lt. sum_room n c.args.sums.now c.make_plan.new.plan c.args.k j c.requires.setting.sound c.requires.step (omega (arith, lt, long)) c.requires.ready.entries c.make_plan.ensures.within;
    }

pub returns : goal.returns
returns c = rw (c.add_times-2.ensures, c.add_times.ensures, c.move_multipliers.ensures, c.make_plan.ensures.value, c.make_means.ensures.value) refl
