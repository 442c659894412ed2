use Rattle.std.proofs.Common.{rules, ◌≡◌, ◌∙◌, ◌+◌, ◌<◌, ◌∷◌, [], ◌++◌, ℕ, ℤ, List, pos, length, get_or, take, arith, string_bytes, sym, ap, codes, FitsSigned, ◌+ℤ◌, to_z, of_z}
use Rattle.std.specs.Int.{w128}
use Rattle.std.proofs.lemmas.Int.{ints, to_z_pos, to_z-of_z}
use Rattle.number_text.specs.Lines.{line_of, text_of}
use Rattle.bound_report.specs.Report.{numbered_violations}
use Rattle.bound_report.proofs.Growing.{lines_pushed}
use Rattle.bound_report.proofs.RowLines.{line_at, line_more}
use Rattle.bound_report.proofs.push_rows.Goals as goal

pub loop-i-preserved : goal.loop-i-preserved
loop-i-preserved c =
    let rows = c.args.b.now.rows.items in
    let old = string_bytes c.args.text.now in
    let i = c.loop-i.i in
    let within : i < length rows = rw c.deref-row-items.ensures.value at c.loop-i-test.true in
    let few = c.deref-row-items.type_inv.0 in
    let index : to_z w128 i ≡ pos i = to_z_pos w128 i (omega (arith, c.loop-i-test.true, few)) in
    let number_fits : FitsSigned w128 (pos (i + 1)) = omega (arith, ints, c.loop-i-test.true, few) in
    let number : to_z w128 (of_z w128 (to_z w128 i +ℤ pos 1)) ≡ pos (i + 1) =
    (λ j. to_z w128 (of_z w128 (index j +ℤ pos 1))) ∙ to_z-of_z w128 (pos (i + 1)) number_fits in
    let entry_fits : FitsSigned w128 (get_or c.deref-row-items.result.now i (pos 0)) = search rules in
    let entry : to_z w128 (of_z w128 (get_or c.deref-row-items.result.now i (pos 0))) ≡ get_or rows i (pos 0) =
    to_z-of_z w128 _ entry_fits ∙ ap (λ (zs : List ℤ). get_or zs i (pos 0)) c.deref-row-items.ensures.value in
    let added : string_bytes c.push_line.new.text ≡ string_bytes c.loop-i.text ++ text_of (line_at 1 rows i ∷ []) =
    c.in_ok-push_line.ensures.text
    ∙ (λ j. string_bytes c.loop-i.text ++ text_of (line_of (codes "violation") (number j ∷ entry j ∷ pos 1099511627776 ∷ []) ∷ [])) in
    lines_pushed (numbered_violations 1 (take i rows)) (line_at 1 rows i ∷ []) old _ _ c.loop-i.invariant added
    ∙ ap (λ (ls : List (List ℕ)). old ++ text_of ls) (sym (line_more 1 rows i within))
