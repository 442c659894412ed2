use Rattle.std.proofs.Common.{◌≡◌, ◌∙◌, ◌++◌, ◌<◌, ap, sym, length, rules}
use Rattle.qp_model.specs.bounds.Printed.{printed}
use Rattle.qp_model.specs.declared.bounds.Bounds.{Bounds}
use Rattle.bound_report.specs.Report.{report_text}
use Rattle.command_split.proofs.Reports.{texts_behind}
use Rattle.command_split.proofs.cells.reports_of.Goals as goal

pub loop-own-preserved : goal.loop-own-preserved
loop-own-preserved c =
    let bounds = c.args.bounds.now in
    let i = c.loop-own.own-index in
    let own = c.own-item.result in
    let lt : i < length bounds = search rules in
    let items : c.extend_from_slice.new.self.items ≡ c.loop-own.reports.items ++ c.deref.result.now = search rules in
    items ∙ (λ k. c.loop-own.invariant k ++ (c.deref.ensures.value ∙ c.in_ok-text.ensures ∙ ap (λ (b : Bounds). report_text (printed b)) c.own-item.is) k)
    ∙ sym (texts_behind (λ b. report_text (printed b)) bounds i own lt)
