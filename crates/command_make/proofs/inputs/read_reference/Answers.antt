use Rattle.std.proofs.Common.{refl}
use Rattle.command_line.proofs.Results.{err_same}
use Rattle.command_make.proofs.inputs.read_reference.Goals as goal

pub returns-in_err-read_policy_file : goal.returns-in_err-read_policy_file
returns-in_err-read_policy_file g c =
    let did = rw c.at-name.ensures at c.in_err-read_policy_file.ensures.read in
    rw (err_same c.from_residual.result _ c.from_residual.ensures.1) (record { read = rw c.if-asked.true (tt, did.ends, did.passes); sized = tt })

pub returns-in_ok-read_policy_file : goal.returns-in_ok-read_policy_file
returns-in_ok-read_policy_file g c =
    let did = rw c.at-name.ensures at c.in_ok-read_policy_file.ensures.read in
    record { read = rw c.if-asked.true (did.right, tt, did.passes); sized = c.in_ok-read_policy_file.ensures.sized }

pub returns-else-asked : goal.returns-else-asked
returns-else-asked g c = record { read = rw c.if-asked.false (refl, refl); sized = tt }
