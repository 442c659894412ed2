use Rattle.command_line.proofs.Results.{err_same}
use Rattle.command_design_files.proofs.Readers.{unread, judged}
use Rattle.command_files.proofs.Controllers.{controllers_told, controllers_judged}
use Rattle.command_files.proofs.files.read_any_controller_file.Goals as goal

pub returns-in_err-bytes : goal.returns-in_err-bytes
returns-in_err-bytes g c = rw (err_same c.from_residual.result _ c.from_residual.ensures.1) (unread _ c.in_err-bytes.ensures.ends c.in_err-bytes.ensures.passes)

pub returns : goal.returns
returns g c =
    let got = c.in_ok-bytes.ensures in
    let bytes = c.in_ok-bytes.bytes.items in
    let is = rw c.deref.ensures.value at c.read_any_controller.ensures in
    let p = c.read_any_controller.result in
    judged controllers_told bytes got.told got.short got.passes p
    c.told_controller.result c.told_controller.ensures
    (controllers_judged bytes p is.found is.bad_line is.wide is.right is.bad_first is.bad_sums)
