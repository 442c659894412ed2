use Rattle.command_make.proofs.texts.free_texts.Goals as goal

pub returns-then-inputs : goal.returns-then-inputs
returns-then-inputs c = rw c.if-inputs.true c.fast_texts.ensures

pub returns-else-inputs : goal.returns-else-inputs
returns-else-inputs c = rw c.if-inputs.false c.plain_texts.ensures
