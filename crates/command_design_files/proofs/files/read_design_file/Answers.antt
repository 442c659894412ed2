use Rattle.command_line.proofs.Results.{err_same}
use Rattle.command_design_files.proofs.Readers.{unread, text_told, judged, right_or, fault_or}
use Rattle.command_design_files.proofs.files.read_design_file.Goals as goal

pub returns-in_err-bytes : goal.returns-in_err-bytes
returns-in_err-bytes g c = rw (err_same c.from_residual.result _ c.from_residual.ensures.1) (unread _ c.in_err-bytes.ensures.ends c.in_err-bytes.ensures.passes)

pub returns : goal.returns
returns g c =
    let got = c.in_ok-bytes.ensures in
    let is = rw c.deref.ensures.value at c.read_design.ensures in
    let p = c.read_design.result in
    judged text_told c.in_ok-bytes.bytes.items got.told got.short got.passes p c.told_text.result c.told_text.ensures
    (record { found = is.text; fault = is.fault; right = λ y right. right_or _ p (is.every_text y right); first = λ other fault. fault_or p (is.every_fault other fault) })
