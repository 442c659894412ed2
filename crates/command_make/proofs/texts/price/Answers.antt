use Rattle.command_make.proofs.texts.price.Goals as goal

pub returns-then-inputs : goal.returns-then-inputs
returns-then-inputs c = rw c.if-inputs.true c.price_fast.ensures

pub returns-else-inputs : goal.returns-else-inputs
returns-else-inputs c = rw c.if-inputs.false c.price_plain.ensures
