use Rattle.std.proofs.Common.{Ok, Err}
use Rattle.design_files.proofs.TextLaws.{design_text, every_design_text, every_design_fault}
use Rattle.design_files.proofs.places.read_design.Goals as goal

pub returns-in-Ok-clause-text : goal.returns-in-Ok-clause-text
returns-in-Ok-clause-text c = design_text c.args.bytes.now c.in-Ok.asked c.in-Ok.ensures.text

pub returns-in-Ok-clause-every_text : goal.returns-in-Ok-clause-every_text
returns-in-Ok-clause-every_text c = every_design_text c.args.bytes.now (Ok c.in-Ok.asked.design) (design_text c.args.bytes.now c.in-Ok.asked c.in-Ok.ensures.text) tt

pub returns-in-Ok-clause-every_fault : goal.returns-in-Ok-clause-every_fault
returns-in-Ok-clause-every_fault c = every_design_fault c.args.bytes.now (Ok c.in-Ok.asked.design) (design_text c.args.bytes.now c.in-Ok.asked c.in-Ok.ensures.text) tt

pub returns-in-Err-clause-fault : goal.returns-in-Err-clause-fault
returns-in-Err-clause-fault c = c.in-Err.ensures.fault

pub returns-in-Err-clause-every_text : goal.returns-in-Err-clause-every_text
returns-in-Err-clause-every_text c = every_design_text c.args.bytes.now (Err c.in-Err.fault) tt c.in-Err.ensures.fault

pub returns-in-Err-clause-every_fault : goal.returns-in-Err-clause-every_fault
returns-in-Err-clause-every_fault c = every_design_fault c.args.bytes.now (Err c.in-Err.fault) tt c.in-Err.ensures.fault
