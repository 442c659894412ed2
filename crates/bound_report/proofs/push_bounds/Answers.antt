use Rattle.std.proofs.Common.{rules, ◌≡◌, ◌∙◌, ◌++◌, ◌∷◌, [], pos, ℕ, List, string_bytes, ap, codes, append_assoc, FitsSigned}
use Rattle.std.specs.Int.{w128}
use Rattle.std.proofs.lemmas.Int.{to_z-of_z}
use Rattle.std.proofs.lemmas.Result.{on_ok_weaker}
use Rattle.number_text.specs.Lines.{line_of, text_of}
use Rattle.qp_model.specs.bounds.Printed.{printed}
use Rattle.bound_report.specs.Report.{violation_lines}
use Rattle.bound_report.proofs.Growing.{lines_pushed}
use Rattle.bound_report.proofs.push_bounds.Goals as goal

pub returns : goal.returns
returns c =
    let b = c.args.b.now in
    let gap_fits : FitsSigned w128 b.gap = search rules in
    let undercut_fits : FitsSigned w128 b.undercut = search rules in
    let gap = to_z-of_z w128 b.gap gap_fits in
    let undercut = to_z-of_z w128 b.undercut undercut_fits in
    let text0 : List ℕ = string_bytes c.args.text.now in
    let text1 : List ℕ = string_bytes c.push_violations.new.text in
    let text2 : List ℕ = string_bytes c.push_line.new.text in
    let text3 : List ℕ = string_bytes c.push_line-2.new.text in
    let ls = violation_lines (printed b) in
    let l1 = line_of (codes "gap") (b.gap ∷ pos 1099511627776 ∷ []) in
    let l2 = line_of (codes "undercut") (b.undercut ∷ pos 1099511627776 ∷ []) in
    let e2 : text2 ≡ text0 ++ text_of (ls ++ l1 ∷ []) = lines_pushed ls (l1 ∷ []) text0 text1 text2 c.in_ok-push_violations.ensures
    (c.in_ok-push_line.ensures.text ∙ (λ i. text1 ++ text_of (line_of (codes "gap") (gap i ∷ pos 1099511627776 ∷ []) ∷ []))) in
    on_ok_weaker c.push_line-2.result (λ grown.
    lines_pushed (ls ++ l1 ∷ []) (l2 ∷ []) text0 text2 text3 e2
    (grown ∙ (λ i. text2 ++ text_of (line_of (codes "undercut") (undercut i ∷ pos 1099511627776 ∷ []) ∷ [])))
    ∙ ap (λ (ms : List (List ℕ)). text0 ++ text_of ms) (append_assoc ls (l1 ∷ []) (l2 ∷ []))) c.push_line-2.ensures.text
