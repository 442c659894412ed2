use Rattle.qp_model.specs.problem.Parts.{design_of}
use Rattle.cell_split.proofs.PolicyFacts.{policies_fit, policies_told}
use Rattle.cell_split.proofs.policies.read_cell_policies.Goals as goal

pub returns-clause-found : goal.returns-clause-found
returns-clause-found c = rw (← c.parts.ensures.value) c.policies_of.ensures.found

pub returns-clause-sized : goal.returns-clause-sized
returns-clause-sized c = rw (← c.parts.ensures.value) (policies_fit c.args.bytes.now (design_of c.parts.result.now) c.args.cells c.policies_of.result c.policies_of.ensures.found)

pub returns-clause-fault : goal.returns-clause-fault
returns-clause-fault c = rw (← c.parts.ensures.value) c.policies_of.ensures.fault

pub returns-clause-right : goal.returns-clause-right
returns-clause-right c =
    rw (← c.parts.ensures.value) (policies_told c.args.bytes.now (design_of c.parts.result.now) c.args.cells c.policies_of.result c.policies_of.ensures.found c.policies_of.ensures.fault).0

pub returns-clause-first : goal.returns-clause-first
returns-clause-first c =
    rw (← c.parts.ensures.value) (policies_told c.args.bytes.now (design_of c.parts.result.now) c.args.cells c.policies_of.result c.policies_of.ensures.found c.policies_of.ensures.fault).1
