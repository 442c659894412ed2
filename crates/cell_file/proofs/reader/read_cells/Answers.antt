use Rattle.std.proofs.Common.{◌≡◌, ℕ, List, Result, Ok, Err, map, sym, subst}
use Rattle.std.specs.Prelude.{MatchResult}
use Rattle.std.specs.Global.{Vec}
use Rattle.number_text.specs.Lines.{text_of}
use Rattle.text_lines.specs.declared.line.Line.{Line}
use Rattle.text_lines.specs.Lines.{views, spelled}
use Rattle.cell_file.specs.Lines.{IsCellsWhole}
use Rattle.cell_file.specs.Text.{IsBadCellsLine}
use Rattle.cell_file.proofs.Texts.{whole_found, whole_no_line, whole_wide, whole_right, whole_first, whole_sums}
use Rattle.cell_file.proofs.reader.read_cells.Goals as goal

-- the lines that were read are all of the text
read : (bytes : List ℕ) (told : Result (Vec Line) ℕ) (v : Vec Line) (lines : List Line) → MatchResult told (λ v. IsCellsWhole (views v.items) × (bytes ≡ text_of (map spelled (views v.items)))) (IsBadCellsLine bytes) → told ≡ Ok v →
    lines ≡ v.items → IsCellsWhole (views lines) × (bytes ≡ text_of (map spelled (views lines)))
read bytes told v lines h is same =
    let both : IsCellsWhole (views v.items) × (bytes ≡ text_of (map spelled (views v.items))) =
    subst (λ (r : Result (Vec Line) ℕ). MatchResult r (λ v. IsCellsWhole (views v.items) × (bytes ≡ text_of (map spelled (views v.items)))) (IsBadCellsLine bytes)) is h in
    subst (λ (ls : List Line). IsCellsWhole (views ls) × (bytes ≡ text_of (map spelled (views ls)))) (sym same) both

-- or that line is the first bad one
bad : (bytes : List ℕ) (told : Result (Vec Line) ℕ) (l : ℕ) → MatchResult told (λ v. IsCellsWhole (views v.items) × (bytes ≡ text_of (map spelled (views v.items)))) (IsBadCellsLine bytes) → told ≡ Err l → IsBadCellsLine bytes l
bad bytes told l h is = subst (λ (r : Result (Vec Line) ℕ). MatchResult r (λ v. IsCellsWhole (views v.items) × (bytes ≡ text_of (map spelled (views v.items)))) (IsBadCellsLine bytes)) is h

pub returns-in-Ok-clause-found : goal.returns-in-Ok-clause-found
returns-in-Ok-clause-found c =
    let both = read c.args.bytes.now c.in_ok-lines.field-0 c.in-Ok.lines c.deref.result.now c.in_ok-lines.ensures c.in-Ok.is c.deref.ensures.value in
    whole_found c.args.bytes.now (views c.deref.result.now) both.0 both.1 c.controllers_of.result c.controllers_of.ensures.found

pub returns-in-Ok-clause-bad_line : goal.returns-in-Ok-clause-bad_line
returns-in-Ok-clause-bad_line c =
    let both = read c.args.bytes.now c.in_ok-lines.field-0 c.in-Ok.lines c.deref.result.now c.in_ok-lines.ensures c.in-Ok.is c.deref.ensures.value in
    whole_no_line c.args.bytes.now (views c.deref.result.now) both.0 both.1 c.controllers_of.result c.controllers_of.ensures.fault

pub returns-in-Ok-clause-wide : goal.returns-in-Ok-clause-wide
returns-in-Ok-clause-wide c =
    let both = read c.args.bytes.now c.in_ok-lines.field-0 c.in-Ok.lines c.deref.result.now c.in_ok-lines.ensures c.in-Ok.is c.deref.ensures.value in
    whole_wide c.args.bytes.now (views c.deref.result.now) both.0 both.1 c.controllers_of.result c.controllers_of.ensures.fault

pub returns-in-Ok-clause-right : goal.returns-in-Ok-clause-right
returns-in-Ok-clause-right c =
    let both = read c.args.bytes.now c.in_ok-lines.field-0 c.in-Ok.lines c.deref.result.now c.in_ok-lines.ensures c.in-Ok.is c.deref.ensures.value in
    whole_right c.args.bytes.now (views c.deref.result.now) both.0 both.1 c.controllers_of.result c.controllers_of.ensures.found c.controllers_of.ensures.fault

pub returns-in-Ok-clause-bad_first : goal.returns-in-Ok-clause-bad_first
returns-in-Ok-clause-bad_first c =
    let both = read c.args.bytes.now c.in_ok-lines.field-0 c.in-Ok.lines c.deref.result.now c.in_ok-lines.ensures c.in-Ok.is c.deref.ensures.value in
    whole_first c.args.bytes.now (views c.deref.result.now) both.0 both.1 c.controllers_of.result

pub returns-in-Ok-clause-bad_sums : goal.returns-in-Ok-clause-bad_sums
returns-in-Ok-clause-bad_sums c =
    let both = read c.args.bytes.now c.in_ok-lines.field-0 c.in-Ok.lines c.deref.result.now c.in_ok-lines.ensures c.in-Ok.is c.deref.ensures.value in
    whole_sums c.args.bytes.now (views c.deref.result.now) both.0 both.1 c.controllers_of.result c.controllers_of.ensures.found c.controllers_of.ensures.fault

pub returns-in-Err-clause-bad_sums : goal.returns-in-Err-clause-bad_sums
returns-in-Err-clause-bad_sums c = λ u. absurd ((bad c.args.bytes.now c.in_ok-lines.field-0 c.in-Err.line c.in_ok-lines.ensures c.in-Err.is).none (record { cells = u.cells; form = u.form }))
