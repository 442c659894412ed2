use Rattle.std.proofs.Common.{◌<◌, ◌++◌, ◌∷◌, [], length, ap, ◌∙◌, string_bytes, List, ℤ, arith, rules}
use Rattle.number_text.specs.Lines.{line_of, text_of}
use Rattle.text_lines.proofs.Pushed.{row_pushed}
use Rattle.controller_text.proofs.writer.push_rows.Goals as goal

pub loop-i-preserved : goal.loop-i-preserved
loop-i-preserved c =
    let rows = c.args.rows.now.rows in
    let lt : c.loop-i.i < length rows = omega arith in
    let grown = c.in_ok-push_line.ensures.text ∙ ap (λ (row : List ℤ). string_bytes c.loop-i.text ++ text_of (line_of c.args.key.now row ∷ [])) c.row.ensures.value in
    row_pushed c.args.key.now rows c.loop-i.i (string_bytes c.args.text.now) (string_bytes c.loop-i.text) (string_bytes c.push_line.new.text) lt c.loop-i.invariant grown

pub loop-i-init : goal.loop-i-init
loop-i-init c = search rules

pub returns-clause-word : goal.returns-clause-word
returns-clause-word c = search rules
