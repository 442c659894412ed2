use Rattle.fixed_kernel.proofs.word_step.word_plan.Goals as goal

pub word_entries-requires : goal.word_entries-requires
word_entries-requires c = record {
  setting = c.requires.setting;
  half = λ t. c.requires.setting.form.half c.if-form.true;
  bases = c.requires.bases;
  multipliers = c.requires.multipliers;
  plan = c.requires.plan;
}

pub word_entries-requires-else-form : goal.word_entries-requires-else-form
word_entries-requires-else-form c = record { setting = c.requires.setting; half = λ t. cc; bases = c.requires.bases; multipliers = c.requires.multipliers; plan = c.requires.plan }
