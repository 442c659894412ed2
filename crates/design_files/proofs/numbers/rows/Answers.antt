use Rattle.std.proofs.Common.{◌≡◌, ◌∙◌, ◌<◌, [], ℤ, List, set, All, Some, length, inl, inr, refl, sym}
use Rattle.std.proofs.lemmas.Result.{err_from_is_err_and}
use Rattle.std.proofs.lemmas.List.{length-set}
use Rattle.std.proofs.lemmas.List.Elements.{All-set}
use Rattle.std.specs.Prelude.{IsSomeAnd}
use Rattle.toml.specs.View.{view, items_view}
use Rattle.design_files.specs.Numbers.{rows_of, IsIntegerList}
use Rattle.design_files.proofs.NumberLaws.{rows_item, some_and, rows_more, rows_done}
use Rattle.design_files.proofs.numbers.rows.Goals as goal

pub returns-in_err-integer_list : goal.returns-in_err-integer_list
returns-in_err-integer_list c =
    let vs = c.args.items.now in
    let e = err_from_is_err_and c.from_residual-in_err-integer_list.result c.from_residual-in_err-integer_list.ensures.1 in
    let item : (IsSomeAnd (rows_of (items_view vs)) (All (λ row. length row ≡ c.args.width)) → IsIntegerList c.args.width (Some (view c.index-items-i.result))) = λ is.
    let (rows, (found, all)) = some_and (rows_of (items_view vs)) (All (λ row. length row ≡ c.args.width)) is in
    rw c.index-items-i.is (rows_item vs rows c.loop-i.i c.index-items-i.result c.args.width c.loop-i-test.true found all) in
    rw (e.1, e.2) (elim c.in_err-integer_list.ensures [
      | inl none ↦ inl none
      | inr broken ↦ elim broken [
        | inl here ↦ inr (inl (λ is. here.0 (item is), here.1))
        | inr later ↦ absurd later.1
      ]
    ])

pub returns-in_err-matrix : goal.returns-in_err-matrix
returns-in_err-matrix c =
    let e = err_from_is_err_and c.from_residual.result c.from_residual.ensures.1 in
    rw (e.1, e.2) (inl refl)

pub set_row-requires : goal.set_row-requires
set_row-requires c =
    let inv = c.loop-i.invariant in
    let inside : c.loop-i.i < length c.loop-i.matrix.rows = rw inv.1 c.loop-i-test.true in
    let long = (rw c.in_ok-integer_list.ensures.1 at c.in_ok-integer_list.ensures.0.0) in
    record {
      in_range = inside;
      width = rw c.deref.ensures.value (long ∙ sym inv.0);
      row_width = inv.2 c.loop-i.i [] inside ∙ sym inv.0;
    }

pub loop-i-preserved : goal.loop-i-preserved
loop-i-preserved c =
    let inv = c.loop-i.invariant in
    let row = c.in_ok-integer_list.field-0.items in
    let old = c.loop-i.matrix.rows in
    let long = (rw c.in_ok-integer_list.ensures.1 at c.in_ok-integer_list.ensures.0.0) in
    let written : c.set_row.new.matrix ≡ record c.loop-i.matrix { rows = set old c.loop-i.i row } = rw c.deref.ensures.value at c.set_row.ensures in
    rw written (
      inv.0,
      length-set old c.loop-i.i row ∙ inv.1,
      All-set (λ (zs : List ℤ). length zs ≡ c.args.width) old c.loop-i.i row long inv.2,
      rows_more c.args.items.now old c.loop-i.i c.index-items-i.result row c.loop-i-test.true inv.1 c.index-items-i.is c.in_ok-integer_list.ensures.1 inv.3,
    )

pub returns : goal.returns
returns c =
    let inv = c.loop-i.invariant in
    let is = rows_done c.args.items.now c.loop-i.matrix.rows c.loop-i.i c.loop-i-test.false inv.1 inv.3 in
    ((rw is inv.2, tt), (inv.0, is, λ k d h. inv.2 k d h ∙ sym inv.0))
