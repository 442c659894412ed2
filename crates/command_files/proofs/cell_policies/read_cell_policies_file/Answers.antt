use Rattle.std.proofs.Common.{sym, ◌∙◌}
use Rattle.std.specs.Option.{option_map}
use Rattle.std.proofs.lemmas.List.{length-map}
use Rattle.std.proofs.lemmas.Result.{IfOk-weaker}
use Rattle.qp_model.specs.problem.Parts.{design_of}
use Rattle.qp_model.specs.problem.Policy.{plans_of}
use Rattle.command_line.proofs.Results.{err_same}
use Rattle.command_design_files.proofs.Readers.{unread, text_told, judged, still}
use Rattle.command_files.proofs.cell_policies.read_cell_policies_file.Goals as goal

pub returns-in_err-bytes : goal.returns-in_err-bytes
returns-in_err-bytes g c =
    rw (err_same c.from_residual.result _ c.from_residual.ensures.1) (record { read = unread _ c.in_err-bytes.ensures.ends c.in_err-bytes.ensures.passes; count = tt; sized = tt; some = tt })

pub returns : goal.returns
returns g c =
    let d = design_of c.args.design.now in
    let got = c.in_ok-bytes.ensures in
    let is = rw c.deref.ensures.value at c.read_cell_policies.ensures in
    let p = c.read_cell_policies.result in
    let r = c.told_text.result in
    record {
      read = judged text_told c.in_ok-bytes.bytes.items got.told got.short got.passes p r c.told_text.ensures
          (record { found = is.found; fault = is.fault; right = is.right; first = is.first });
      count = still _ _ p r c.told_text.ensures (IfOk-weaker p _ _ (λ v are. sym (length-map v.items (option_map plans_of)) ∙ are.hold.count) is.found);
      sized = still _ _ p r c.told_text.ensures is.sized;
      some = still _ _ p r c.told_text.ensures (IfOk-weaker p _ _ (λ v are. are.some) is.found);
    }
