use Rattle.std.proofs.Common.{true}
use Rattle.design_files.proofs.TextLaws.{every_text, every_fault}
use Rattle.design_files.proofs.places.read_any_design.Goals as goal

pub returns-clause-every_text : goal.returns-clause-every_text
returns-clause-every_text c = every_text true c.args.bytes.now c.read_text.result c.read_text.ensures.text c.read_text.ensures.fault

pub returns-clause-every_fault : goal.returns-clause-every_fault
returns-clause-every_fault c = every_fault true c.args.bytes.now c.read_text.result c.read_text.ensures.text c.read_text.ensures.fault
