use Rattle.fast_machine.proofs.word_step.word_moves.Goals as goal

pub word_rows-requires : goal.word_rows-requires
word_rows-requires c = record {
  setting = c.requires.setting;
  half = λ t. c.requires.setting.form.half c.if-form.true;
  bases = c.requires.bases;
  plan = c.requires.plan;
  step = c.requires.step;
  long = c.requires.long;
  up = c.requires.up;
}

pub word_rows-requires-else-form : goal.word_rows-requires-else-form
word_rows-requires-else-form c = record { setting = c.requires.setting; half = λ t. cc; bases = c.requires.bases; plan = c.requires.plan; step = c.requires.step; long = c.requires.long; up = c.requires.up }
