use Rattle.std.proofs.Common.{◌≡◌, Some, length, sym, inl, inr, arith}
use Rattle.std.proofs.lemmas.Result.{err_from_is_err_and}
use Rattle.toml.specs.Data.{as_array}
use Rattle.toml.specs.View.{view, items_view}
use Rattle.qp_model.specs.problem.Range.{LiesIn}
use Rattle.design_files.proofs.NumberLaws.{lists_count, lists_reads}
use Rattle.design_files.proofs.numbers.lists.Goals as goal

pub returns-in_err-in_shape : goal.returns-in_err-in_shape
returns-in_err-in_shape c =
    let vs = c.in-Some.items.now.items in
    let shown : as_array (view c.at.result.now) ≡ Some (items_view vs) = sym (rw c.in-Some.is at c.as_array.ensures) in
    let same : c.len.result ≡ length vs = omega (arith, c.in-Some.items.now.ok.0) in
    let e = err_from_is_err_and c.from_residual.result c.from_residual.ensures.1 in
    rw (e.1, e.2, c.at.ensures, shown) (inr (inl (λ is. c.in_err-in_shape.ensures.err.1 (c.lies_in.ensures.1 (rw same (lists_count vs _ _ _ is))), c.in_err-in_shape.ensures.err.0)))

pub returns : goal.returns
returns c =
    let vs = c.in-Some.items.now.items in
    let shown : as_array (view c.at.result.now) ≡ Some (items_view vs) = sym (rw c.in-Some.is at c.as_array.ensures) in
    let same : c.len.result ≡ length vs = omega (arith, c.in-Some.items.now.ok.0) in
    let many : LiesIn c.args.low c.args.high (length vs) = rw (← same) (c.lies_in.ensures.0 c.in_ok-in_shape.ensures.ok) in
    rw c.at.ensures (lists_reads (view c.at.result.now) vs c.args.place c.args.low c.args.high c.args.width c.rows.result shown many (rw c.deref.ensures.value at c.rows.ensures))
