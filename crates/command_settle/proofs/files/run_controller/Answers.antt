use Rattle.command_line.proofs.Following.{stopped, went_on}
use Rattle.command_settle.proofs.files.run_controller.Goals as goal

pub returns-in-Err : goal.returns-in-Err
returns-in-Err g c =
    let did = c.read_certificate_file.ensures.read in
    stopped did.passes (rw c.at.ensures at c.in-Err.ensures.read.ends)

pub returns-in-Ok : goal.returns-in-Ok
returns-in-Ok g c =
    let kept = c.in-Ok.ensures.read in
    went_on kept.passes (rw c.at.ensures at kept.right) c.run_certificate.ensures

pub run_certificate-requires-clause-inside : goal.run_certificate-requires-clause-inside
run_certificate-requires-clause-inside g c = c.in-Ok.ensures.read.right.right.right.inside
