use Rattle.std.proofs.Common.{ap, sym, ◌∙◌, arith}
use Rattle.mat_int.specs.Matrix.{Matrix}
use Rattle.packed_rows.proofs.RowFacts.{row_pushed, rows_count, pushed_ok, as_matrix}
use Rattle.packed_rows.proofs.rows.PackedRows.push_row.Goals as goal

pub invariant_of-self-2 : goal.invariant_of-self-2
invariant_of-self-2 c =
    let f = c.self.inside in
    let long = c.requires.long ∙ sym (ap (λ (m : Matrix). m.cols) c.self.view_is) in
    let few = rw (← c.self.view_is) at c.requires.few in
    let ok = sym c.is_err.ensures.value ∙ c.if-is_err.false in
    let words = pushed_ok c.push_numbers.result _ c.push_numbers.ensures.word ok in
    let made = pushed_ok c.push_numbers.result _ c.push_numbers.ensures.ok ok in
    let p = row_pushed f.cols f.rows f.bytes.items c.push_numbers.new.bytes.items c.args.row.now c.self.invariant.bytes c.self.invariant.word words long made in
    record { bytes = p.packs; word = p.word; few = omega (arith, few, rows_count f.cols f.rows f.bytes.items) }

pub returns-clause-ok : goal.returns-clause-ok
returns-clause-ok c =
    let f = c.self.inside in
    let long = c.requires.long ∙ sym (ap (λ (m : Matrix). m.cols) c.self.view_is) in
    let ok = sym c.is_err.ensures.value ∙ c.if-is_err.false in
    let words = pushed_ok c.push_numbers.result _ c.push_numbers.ensures.word ok in
    let made = pushed_ok c.push_numbers.result _ c.push_numbers.ensures.ok ok in
    let p = row_pushed f.cols f.rows f.bytes.items c.push_numbers.new.bytes.items c.args.row.now c.self.invariant.bytes c.self.invariant.word words long made in
    rw (← c.self.view_is) (as_matrix f.cols _ _ p.rows)
