use Rattle.design_files.proofs.KeyLaws.{only_decides}
use Rattle.design_files.proofs.keys.has_only.Goals as goal

pub returns : goal.returns
returns c = rw c.are_names.ensures (only_decides c.args.names.now c.args.table.now.entries)
