use Rattle.std.proofs.Common.{arith}
use Rattle.std.proofs.lemmas.Result.{err_from_is_err_and}
use Rattle.qp_model.specs.problem.Parts.{design_of}
use Rattle.policy_file.proofs.TextFacts.{passed_on}
use Rattle.policy_file.proofs.PolicyFacts.{plan_small, plans_read, plans_fault}
use Rattle.policy_file.proofs.read.plans_in.Goals as goal

pub overflow_mul-entries : goal.overflow_mul-entries
overflow_mul-entries c = omega (arith, plan_small c.args.parts.now c.requires.design)

pub read_headed-requires : goal.read_headed-requires
read_headed-requires c = record { small = c.requires.small; narrow = omega (arith, plan_small c.args.parts.now c.requires.design) }

pub returns-in_err-read-clause-found : goal.returns-in_err-read-clause-found
returns-in_err-read-clause-found c = rw (err_from_is_err_and c.from_residual.result c.from_residual.ensures.1).1 tt

pub returns-in_err-read-clause-fault : goal.returns-in_err-read-clause-fault
returns-in_err-read-clause-fault c = passed_on _ _ _ c.from_residual.ensures.1 (plans_fault c.args.bytes.now (design_of c.args.parts.now) c.args.number _ c.in_err-read.ensures.fault)

pub returns-clause-found : goal.returns-clause-found
returns-clause-found c =
    plans_read c.args.bytes.now (design_of c.args.parts.now) c.args.number
    (record { denominators = c.in_ok-read.read.heads.items; numerators = c.in_ok-read.read.rows }) c.in_ok-read.ensures.found

pub returns-clause-fault : goal.returns-clause-fault
returns-clause-fault c = tt
