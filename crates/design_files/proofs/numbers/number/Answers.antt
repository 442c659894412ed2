use Rattle.design_files.proofs.numbers.number.Goals as goal

pub returns : goal.returns
returns c = rw c.at.ensures c.integer.ensures
