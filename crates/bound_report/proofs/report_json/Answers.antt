use Rattle.std.proofs.Common.{rules, ◌≡◌, ◌++◌, ◌∷◌, [], ◌∙◌, ℕ, List, sym, ap, Some, ◌≤◌}
use Rattle.serde_json.specs.Data.{object, depth}
use Rattle.serde_json.specs.Read.{max_depth}
use Rattle.serde_json.specs.View.{view}
use Rattle.serde_json.specs.Written.{has_float, compact_text}
use Rattle.serde_json.specs.declared.value.Value.{Object}
use Rattle.serde_json.proofs.Views.{view-Object}
use Rattle.qp_model.specs.bounds.Printed.{printed}
use Rattle.bound_report.specs.Report.{json_members}
use Rattle.bound_report.specs.Document.{object_of}
use Rattle.bound_report.proofs.Compact.{compact_report, no_float, shallow}
use Rattle.bound_report.proofs.report_json.Goals as goal

pub returns-clause-bytes : goal.returns-clause-bytes
returns-clause-bytes c =
    let b = printed c.args.b.now in
    let members = c.in_ok-report_members.field-0 in
    let value : view (Object members) ≡ object_of (json_members b) = view-Object members ∙ ap object c.in_ok-report_members.ensures in
    let text = c.in_ok-text.ensures.text (ap has_float value ∙ no_float (json_members b)) in
    let pushed : c.push.new.self.items ≡ c.in_ok-text.text.items ++ 10 ∷ [] = search rules in
    pushed ∙ ap (λ (t : List ℕ). t ++ 10 ∷ []) (text ∙ ap compact_text value) ∙ sym (compact_report b)

pub returns-clause-document : goal.returns-clause-document
returns-clause-document c =
    let b = printed c.args.b.now in
    let members = c.in_ok-report_members.field-0 in
    let value : view (Object members) ≡ object_of (json_members b) = view-Object members ∙ ap object c.in_ok-report_members.ensures in
    let low : depth (view (Object members)) ≤ max_depth = rw value (shallow (json_members b)) in
    let pushed : c.push.new.self.items ≡ c.in_ok-text.text.items ++ 10 ∷ [] = search rules in
    (c.in_ok-text.text.items, pushed, c.in_ok-text.ensures.reads_back low ∙ ap Some value)
