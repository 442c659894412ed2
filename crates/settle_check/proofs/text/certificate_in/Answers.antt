use Rattle.std.proofs.Common.{inr, length}
use Rattle.std.proofs.lemmas.Result.{err_from_is_err_and}
use Rattle.settle_check.specs.Still.{box_of}
use Rattle.policy_file.proofs.TextFacts.{passed_on}
use Rattle.settle_check.proofs.CertificateFacts.{certificate_read, certificate_fault, range_fault}
use Rattle.settle_check.proofs.text.certificate_in.Goals as goal

pub returns-in_err-read-clause-found : goal.returns-in_err-read-clause-found
returns-in_err-read-clause-found c = rw (err_from_is_err_and c.from_residual.result c.from_residual.ensures.1).1 tt

pub returns-in_err-read-clause-fault : goal.returns-in_err-read-clause-fault
returns-in_err-read-clause-fault c =
    passed_on _ _ _ c.from_residual.ensures.1 (certificate_fault c.args.bytes.now (length c.args.low.now) (box_of c.args.low.now c.args.high.now) _ c.in_err-read.ensures.fault)

pub returns-in-Some-clause-fault : goal.returns-in-Some-clause-fault
returns-in-Some-clause-fault c =
    inr (range_fault c.args.bytes.now (length c.args.low.now) (box_of c.args.low.now c.args.high.now) _ c.in_ok-read.read.heads.items c.in_ok-read.read.rows c.in_ok-read.ensures.found c.in-Some.ensures.some)

pub returns-clause-found : goal.returns-clause-found
returns-clause-found c =
    certificate_read c.args.bytes.now (length c.args.low.now) (box_of c.args.low.now c.args.high.now) _ c.in_ok-read.read.heads.items c.in_ok-read.read.rows c.in_ok-read.ensures.found c.in_default.ensures.none
    c.in_ok-parts.ensures.turns c.in_ok-parts.ensures.after c.in_ok-parts.ensures.back c.in_ok-parts.ensures.start c.in_ok-parts.ensures.still c.in_ok-parts.ensures.rest
