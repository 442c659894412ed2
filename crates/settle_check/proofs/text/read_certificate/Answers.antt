use Rattle.std.proofs.Common.{length}
use Rattle.settle_check.specs.Still.{box_of}
use Rattle.settle_check.proofs.CertificateFacts.{certificate_told, certificate_sized}
use Rattle.settle_check.proofs.text.read_certificate.Goals as goal

pub returns-clause-sized : goal.returns-clause-sized
returns-clause-sized c =
    certificate_sized c.args.bytes.now (length c.args.low.now) (box_of c.args.low.now c.args.high.now) c.certificate_in.result c.certificate_in.ensures.found

pub returns-clause-right : goal.returns-clause-right
returns-clause-right c =
    (certificate_told c.args.bytes.now (length c.args.low.now) (box_of c.args.low.now c.args.high.now) c.certificate_in.result c.certificate_in.ensures.found c.certificate_in.ensures.fault).0

pub returns-clause-first : goal.returns-clause-first
returns-clause-first c =
    (certificate_told c.args.bytes.now (length c.args.low.now) (box_of c.args.low.now c.args.high.now) c.certificate_in.result c.certificate_in.ensures.found c.certificate_in.ensures.fault).1
