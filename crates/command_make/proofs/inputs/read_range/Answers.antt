use Rattle.std.proofs.Common.{refl, ap}
use Rattle.qp_model.specs.declared.design_parts.DesignParts.{DesignParts}
use Rattle.command_line.proofs.Results.{err_same}
use Rattle.command_make.proofs.inputs.read_range.Goals as goal

pub at-name-requires : goal.at-name-requires
at-name-requires g c = c.requires.range c.if-asked.true

pub returns-in_err-read_range_file : goal.returns-in_err-read_range_file
returns-in_err-read_range_file g c =
    let did = rw (ap (λ (p : DesignParts). p.states) c.parts.ensures.value, c.at-name.ensures) at c.in_err-read_range_file.ensures.read in
    rw (err_same c.from_residual.result _ c.from_residual.ensures.1) (record { read = rw c.if-asked.true (tt, did.ends, did.passes); sized = tt })

pub returns-in_ok-read_range_file : goal.returns-in_ok-read_range_file
returns-in_ok-read_range_file g c =
    let did = rw (ap (λ (p : DesignParts). p.states) c.parts.ensures.value, c.at-name.ensures) at c.in_ok-read_range_file.ensures.read in
    record { read = rw c.if-asked.true (did.right, tt, did.passes); sized = rw (ap (λ (p : DesignParts). p.states) c.parts.ensures.value) at c.in_ok-read_range_file.ensures.sized }

pub returns-else-asked : goal.returns-else-asked
returns-else-asked g c = record { read = rw c.if-asked.false (refl, refl); sized = tt }
