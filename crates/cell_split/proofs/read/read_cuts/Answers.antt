use Rattle.qp_model.specs.problem.Parts.{design_of}
use Rattle.cell_split.proofs.TextFacts.{all_are_cuts}
use Rattle.cell_split.proofs.UniqueFacts.{cuts_told}
use Rattle.cell_split.proofs.read.read_cuts.Goals as goal

pub returns-clause-found : goal.returns-clause-found
returns-clause-found c = rw (← c.parts.ensures.value) c.cuts_of_text.ensures.found

pub returns-clause-split : goal.returns-clause-split
returns-clause-split c = rw (← c.parts.ensures.value) (all_are_cuts c.args.bytes.now (design_of c.parts.result.now) c.cuts_of_text.result c.cuts_of_text.ensures.found)

pub returns-clause-fault : goal.returns-clause-fault
returns-clause-fault c = rw (← c.parts.ensures.value) c.cuts_of_text.ensures.fault

pub returns-clause-right : goal.returns-clause-right
returns-clause-right c =
    rw (← c.parts.ensures.value) (cuts_told c.args.bytes.now (design_of c.parts.result.now) c.cuts_of_text.result c.cuts_of_text.ensures.found c.cuts_of_text.ensures.fault).0

pub returns-clause-first : goal.returns-clause-first
returns-clause-first c =
    rw (← c.parts.ensures.value) (cuts_told c.args.bytes.now (design_of c.parts.result.now) c.cuts_of_text.result c.cuts_of_text.ensures.found c.cuts_of_text.ensures.fault).1
