use Rattle.std.proofs.Common.{arith}
use Rattle.std.proofs.lemmas.Result.{err_from_is_err_and}
use Rattle.qp_model.specs.problem.Parts.{design_of}
use Rattle.policy_file.proofs.TextFacts.{passed_on}
use Rattle.stay_check.proofs.FacesTextFacts.{faces_read, faces_fault}
use Rattle.stay_check.proofs.read.faces_in.Goals as goal

pub read_headed-requires : goal.read_headed-requires
read_headed-requires c = record { small = c.requires.small; narrow = omega (arith, c.first_row_count-weights_of.ensures.few) }

pub returns-in_err-read-clause-found : goal.returns-in_err-read-clause-found
returns-in_err-read-clause-found c = rw (err_from_is_err_and c.from_residual.result c.from_residual.ensures.1).1 tt

pub returns-in_err-read-clause-fault : goal.returns-in_err-read-clause-fault
returns-in_err-read-clause-fault c =
    passed_on _ _ _ c.from_residual.ensures.1 (faces_fault c.args.bytes.now (design_of c.args.parts.now) _ _ c.first_row_count-weights_of.ensures.value c.in_err-read.ensures.fault)

pub returns-clause-found : goal.returns-clause-found
returns-clause-found c =
    faces_read c.args.bytes.now (design_of c.args.parts.now)
    (record { factors = c.in_ok-read.read.heads.items; weights = c.in_ok-read.read.rows }) _ c.first_row_count-weights_of.ensures.value c.in_ok-read.ensures.found

pub returns-clause-fault : goal.returns-clause-fault
returns-clause-fault c = tt
