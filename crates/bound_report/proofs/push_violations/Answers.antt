use Rattle.std.proofs.Common.{◌≡◌, ◌++◌, OnOk, string_bytes, ℕ, List, sym, subst}
use Rattle.number_text.specs.Lines.{text_of}
use Rattle.bound_report.proofs.RowLines.{rows_told}
use Rattle.bound_report.proofs.push_violations.Goals as goal

pub returns : goal.returns
returns c =
    subst (λ (ls : List (List ℕ)). OnOk c.push_rows.result (string_bytes c.push_rows.new.text ≡ string_bytes c.args.text.now ++ text_of ls))
    (sym (rows_told c.args.b.now c.if-b-eq1.false)) c.push_rows.ensures
