use Rattle.command_line.proofs.Results.{err_same}
use Rattle.command_loop.proofs.DesignFiles.Readers.{unread, text_told, judged, still}
use Rattle.command_loop.specs.ControllerFile.AnyText.{any_numbers}
use Rattle.command_settle.proofs.certificate.read_certificate_file.Goals as goal

pub returns-in_err-bytes : goal.returns-in_err-bytes
returns-in_err-bytes g c =
    rw (err_same c.from_residual.result _ c.from_residual.ensures.1) (record { read = unread _ c.in_err-bytes.ensures.ends c.in_err-bytes.ensures.passes; sized = tt })

pub returns : goal.returns
returns g c =
    let n = any_numbers c.args.controller.now in
    let got = c.in_ok-bytes.ensures in
    let is = rw c.deref.ensures.value at c.certificate_for.ensures in
    let p = c.certificate_for.result in
    let r = c.told_text.result in
    record {
      read = judged text_told c.in_ok-bytes.bytes.items got.told got.short got.passes p r c.told_text.ensures
          (record { found = is.found; fault = is.fault; right = is.right; first = is.first });
      sized = still _ _ p r c.told_text.ensures is.sized;
    }
