use Rattle.design_files.proofs.numbers.list.Goals as goal

pub returns : goal.returns
returns c = rw c.at.ensures c.integer_list.ensures
