use Rattle.std.proofs.Common.{◌≡◌, ◌∙◌, ◌++◌, ℕ, List, sym, ap, codes}
use Rattle.serde_json.specs.Data.{array, put}
use Rattle.serde_json.specs.View.{view, members_view}
use Rattle.serde_json.specs.declared.value.Value.{Array}
use Rattle.serde_json.proofs.Views.{view-Array}
use Rattle.qp_model.specs.bounds.Printed.{printed}
use Rattle.bound_report.specs.Report.{Figure, first_members, last_members}
use Rattle.bound_report.specs.Document.{strings_of, members_of}
use Rattle.bound_report.proofs.KeyLaws.{rows_in_order}
use Rattle.bound_report.proofs.RowLines.{rows_member}
use Rattle.bound_report.proofs.report_members.Goals as goal

pub returns : goal.returns
returns c =
    let b = c.args.b.now in
    let rows = c.in_ok-rows.rows in
    let value : view (Array rows) ≡ array (strings_of b.rows.items) = view-Array rows ∙ ap array (c.in_ok-rows.ensures ∙ ap strings_of c.deref.ensures.value) in
    let placed : members_view c.put.new.map.entries ≡ put (codes "violations") (array (strings_of b.rows.items)) (members_of (first_members (printed b) ++ last_members (printed b))) =
    c.in_ok-put.ensures.ok ∙ (λ i. put (codes "violations") (value i) (c.in_ok-members.ensures i)) in
    placed ∙ rows_in_order b.lean (printed b) b.rows.items ∙ ap (λ (ms : List (List ℕ × Figure)). members_of (first_members (printed b) ++ ms ++ last_members (printed b))) (sym (rows_member b c.if-b-eq1.false))
