use Rattle.fixed_kernel.proofs.word_step.word_multipliers.Goals as goal

pub word_rows-requires : goal.word_rows-requires
word_rows-requires c = record {
  setting = c.requires.setting;
  half = λ t. c.requires.setting.form.half c.if-form.true;
  bases = c.requires.bases;
  plan = c.requires.plan;
  multipliers = c.requires.multipliers;
}

pub word_rows-requires-else-form : goal.word_rows-requires-else-form
word_rows-requires-else-form c = record { setting = c.requires.setting; half = λ t. cc; bases = c.requires.bases; plan = c.requires.plan; multipliers = c.requires.multipliers }
