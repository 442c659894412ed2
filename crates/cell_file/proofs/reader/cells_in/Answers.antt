use Rattle.std.proofs.Common.{◌≡◌, ℕ, List, Result, Ok, Err, map}
use Rattle.std.specs.Prelude.{IfOk, MatchResult}
use Rattle.std.specs.Global.{Vec}
use Rattle.number_text.specs.Lines.{text_of}
use Rattle.text_lines.specs.declared.line.Line.{Line}
use Rattle.text_lines.specs.Lines.{views, spelled}
use Rattle.text_lines.specs.Grammar.{IsTextOf}
use Rattle.text_lines.specs.FirstLine.{IsBadLineOf}
use Rattle.text_lines.proofs.FirstLines.{bad_line_so}
use Rattle.cell_file.specs.Lines.{IsCellsWhole}
use Rattle.cell_file.specs.Text.{IsCellsForm, IsBadCellsLine}
use Rattle.cell_file.proofs.Grammars.{grammar}
use Rattle.cell_file.proofs.Texts.{form_from, form_to}
use Rattle.cell_file.proofs.reader.cells_in.Goals as goal

-- the first bad line of the grammar is that of the text in form
told : {E : Type 0} (r : Result (Result (Vec Line) ℕ) E) (bytes : List ℕ)
    → IfOk r (λ o. MatchResult o (λ v. IsCellsWhole (views v.items) × (bytes ≡ text_of (map spelled (views v.items)))) (IsBadLineOf (IsTextOf IsCellsWhole) bytes))
    → IfOk r (λ o. MatchResult o (λ v. IsCellsWhole (views v.items) × (bytes ≡ text_of (map spelled (views v.items)))) (IsBadCellsLine bytes))
told (Ok (Ok v)) bytes h = h
told (Ok (Err l)) bytes h = bad_line_so (IsTextOf IsCellsWhole) IsCellsForm form_from form_to bytes l h
told (Err e) bytes h = tt

pub lines_in-requires : goal.lines_in-requires
lines_in-requires c = grammar

pub returns : goal.returns
returns c = told c.lines_in.result c.args.bytes.now c.lines_in.ensures
