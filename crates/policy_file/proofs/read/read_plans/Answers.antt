use Rattle.qp_model.specs.problem.Parts.{design_of}
use Rattle.policy_file.proofs.UniqueFacts.{plans_told}
use Rattle.policy_file.proofs.read.read_plans.Goals as goal

pub returns-clause-found : goal.returns-clause-found
returns-clause-found c = rw (← c.parts.ensures.value) c.plans_in.ensures.found

pub returns-clause-fault : goal.returns-clause-fault
returns-clause-fault c = rw (← c.parts.ensures.value) c.plans_in.ensures.fault

pub returns-clause-right : goal.returns-clause-right
returns-clause-right c =
    rw (← c.parts.ensures.value) (plans_told c.args.bytes.now (design_of c.parts.result.now) c.args.number c.plans_in.result c.plans_in.ensures.found c.plans_in.ensures.fault).0

pub returns-clause-first : goal.returns-clause-first
returns-clause-first c =
    rw (← c.parts.ensures.value) (plans_told c.args.bytes.now (design_of c.parts.result.now) c.args.number c.plans_in.result c.plans_in.ensures.found c.plans_in.ensures.fault).1
