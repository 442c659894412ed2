use Rattle.qp_model.specs.problem.Parts.{design_of}
use Rattle.command_line.proofs.Results.{err_same}
use Rattle.command_design_files.proofs.Readers.{unread, text_told, judged, still}
use Rattle.command_files.proofs.files.read_cuts_file.Goals as goal

pub returns-in_err-bytes : goal.returns-in_err-bytes
returns-in_err-bytes g c =
    rw (err_same c.from_residual.result _ c.from_residual.ensures.1) (record { read = unread _ c.in_err-bytes.ensures.ends c.in_err-bytes.ensures.passes; split = tt })

pub returns : goal.returns
returns g c =
    let d = design_of c.args.design.now in
    let got = c.in_ok-bytes.ensures in
    let is = rw c.deref.ensures.value at c.read_cuts.ensures in
    let p = c.read_cuts.result in
    let r = c.told_text.result in
    record {
      read = judged text_told c.in_ok-bytes.bytes.items got.told got.short got.passes p r c.told_text.ensures
          (record { found = is.found; fault = is.fault; right = is.right; first = is.first });
      split = still _ _ p r c.told_text.ensures is.split;
    }
