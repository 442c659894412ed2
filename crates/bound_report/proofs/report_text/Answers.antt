use Rattle.std.proofs.Common.{rules, ◌≡◌, ◌++◌, ◌∷◌, [], ◌∙◌, string_bytes, ℕ, List, ap}
use Rattle.std.specs.Prelude.{codes}
use Rattle.number_text.specs.Lines.{text_of}
use Rattle.qp_model.specs.bounds.Printed.{printed}
use Rattle.bound_report.specs.Report.{report_head, bound_lines}
use Rattle.bound_report.proofs.Growing.{pushed}
use Rattle.bound_report.proofs.report_text.Goals as goal

pub returns : goal.returns
returns c =
    let b = printed c.args.b.now in
    let text0 : List ℕ = string_bytes c.in_ok-text.text in
    let text1 : List ℕ = string_bytes c.push_bounds.new.text in
    let text2 : List ℕ = string_bytes c.push_str.new.self in
    let e1 : text1 ≡ text_of (report_head b ++ bound_lines b) = pushed (report_head b) (bound_lines b) text0 text1 c.in_ok-text.ensures c.in_ok-push_bounds.ensures in
    let end : text2 ≡ text1 ++ text_of (codes "end" ∷ []) = search rules in
    let whole : text2 ≡ text_of ((report_head b ++ bound_lines b) ++ codes "end" ∷ []) = pushed (report_head b ++ bound_lines b) (codes "end" ∷ []) text1 text2 e1 end in
    ap (λ v. v.items) c.into_bytes.ensures.value ∙ whole
