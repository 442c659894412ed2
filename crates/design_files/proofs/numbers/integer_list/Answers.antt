use Rattle.std.proofs.Common.{◌≡◌, ◌∙◌, sym, Some, length, inl, inr, arith, eq-eqb}
use Rattle.std.proofs.lemmas.Bool.{eqb-true}
use Rattle.std.proofs.lemmas.Result.{err_from_is_err_and}
use Rattle.toml.specs.Data.{as_array}
use Rattle.toml.specs.View.{view, items_view}
use Rattle.design_files.proofs.NumberLaws.{list_count, list_reads}
use Rattle.design_files.proofs.numbers.integer_list.Goals as goal

pub returns-in_err-in_shape : goal.returns-in_err-in_shape
returns-in_err-in_shape c =
    let vs = c.in-Some.items.now.items in
    let shown : as_array (view c.args.value.now) ≡ Some (items_view vs) = sym (rw c.in-Some.is at c.as_array.ensures) in
    let same : c.len.result ≡ length vs = omega (arith, c.in-Some.items.now.ok.0) in
    let e = err_from_is_err_and c.from_residual.result c.from_residual.ensures.1 in
    rw (e.1, e.2, shown) (inr (inl (λ is. c.in_err-in_shape.ensures.err.1 (eq-eqb c.len.result c.args.count (same ∙ list_count vs c.args.count is)), c.in_err-in_shape.ensures.err.0)))

pub returns : goal.returns
returns c =
    let vs = c.in-Some.items.now.items in
    let shown : as_array (view c.args.value.now) ≡ Some (items_view vs) = sym (rw c.in-Some.is at c.as_array.ensures) in
    let same : c.len.result ≡ length vs = omega (arith, c.in-Some.items.now.ok.0) in
    rw shown (list_reads vs c.args.place c.args.count c.integers.result (sym same ∙ eqb-true _ _ c.in_ok-in_shape.ensures.ok) (rw c.deref.ensures.value at c.integers.ensures))
