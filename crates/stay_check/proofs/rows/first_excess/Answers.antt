use Rattle.std.proofs.Common.{◌<◌, length, arith}
use Rattle.qp_model.specs.problem.Design.{rows}
use Rattle.qp_model.specs.problem.Parts.{design_of}
use Rattle.qp_model.proofs.VersionLaws.{design_rows_le}
use Rattle.stay_check.proofs.FaceFacts.{row_inside}
use Rattle.stay_check.proofs.rows.first_excess.Goals as goal

pub offset_bounds-excess-row_number : goal.offset_bounds-excess-row_number
offset_bounds-excess-row_number c =
    let lt : c.row_number.result < rows (design_of c.args.parts.now) = rw c.row_number.ensures (row_inside c.args.parts.now c.args.r c.requires.design c.requires.row) in
    record { fits = omega (arith, lt, design_rows_le c.args.parts.now c.requires.design) }

pub bounds-excess-row_number : goal.bounds-excess-row_number
bounds-excess-row_number c =
    let lt : c.row_number.result < length c.args.excess.now = rw (c.row_number.ensures, c.requires.excess) (row_inside c.args.parts.now c.args.r c.requires.design c.requires.row) in
    lt
