use Rattle.std.proofs.Common.{Bool, subst}
use Rattle.qp_model.specs.machine.Controller.{numbers}
use Rattle.fixed_kernel.specs.Ready.{IsStepSetting}
use Rattle.fixed_kernel.proofs.step.move_raised.Goals as goal

pub move_rows-requires : goal.move_rows-requires
move_rows-requires c = record {
  setting = subst (λ (told : Bool). IsStepSetting (numbers c.args.c.now) told c.args.state.now) c.if-narrow.true c.requires.setting;
  plan = c.requires.plan;
  multipliers = c.requires.multipliers;
}

pub move_rows-requires-else-narrow : goal.move_rows-requires-else-narrow
move_rows-requires-else-narrow c = record {
  setting = subst (λ (told : Bool). IsStepSetting (numbers c.args.c.now) told c.args.state.now) c.if-narrow.false c.requires.setting;
  plan = c.requires.plan;
  multipliers = c.requires.multipliers;
}
