use Rattle.std.proofs.Common.{length, rules}
use Rattle.std.proofs.lemmas.Result.{IfOk-weaker, on_ok_weaker}
use Rattle.integer_algebra.specs.Sums.{at}
use Rattle.integer_algebra.specs.Matrices.{matrix_product, matrix_product_size}
use Rattle.mat_products.specs.Gram.{weighted_gram_matrix, weighted_gram_size}
use Rattle.mat_int.specs.Matrix.{entry_of, transpose_of, HasEntries}
use Rattle.mat_int.proofs.MatrixLaws.{entries_same}
use Rattle.mat_products.proofs.ProductLaws.{fit_same, wide_same, gram_same, gram_size_same, weighted_row_is_wide}
use Rattle.mat_products.proofs.product.gram.Goals as goal

pub returns-in_err-weighted-clause-wide : goal.returns-in_err-weighted-clause-wide
returns-in_err-weighted-clause-wide c = λ e.
    let g = c.args.g.now in
    weighted_row_is_wide (length g.rows) g.cols (at c.args.weights.now) (entry_of g) (c.weighted_columns.ensures.wide (search rules))

pub returns-clause-value : goal.returns-clause-value
returns-clause-value c =
    let g = c.args.g.now in
    let t = c.in_ok-weighted.weighted in
    let h = c.in_ok-weighted.ensures.value in
    let columns = c.in_ok-columns.columns in
    let k = c.in_ok-columns.ensures in
    IfOk-weaker _
    (HasEntries g.cols g.cols (matrix_product t.cols (entry_of t) (transpose_of columns)))
    (HasEntries g.cols g.cols (weighted_gram_matrix (length g.rows) (at c.args.weights.now) (entry_of g)))
    (λ m. entries_same g.cols g.cols _ _ m (λ j l p q. gram_same g t columns (at c.args.weights.now) h k j l p q))
    (rw (h.rows, k.rows) at c.row_products.ensures.value)

pub returns-clause-fits : goal.returns-clause-fits
returns-clause-fits c =
    let g = c.args.g.now in
    let t = c.in_ok-weighted.weighted in
    let h = c.in_ok-weighted.ensures.value in
    let columns = c.in_ok-columns.columns in
    let k = c.in_ok-columns.ensures in
    on_ok_weaker _ (fit_same g.cols g.cols
    (matrix_product_size t.cols (entry_of t) (transpose_of columns))
    (weighted_gram_size (length g.rows) (at c.args.weights.now) (entry_of g))
    (λ j l p q. gram_size_same g t columns (at c.args.weights.now) h k j l p q))
    (rw (h.rows, k.rows) at c.row_products.ensures.fits)

pub returns-clause-wide : goal.returns-clause-wide
returns-clause-wide c = λ e.
    let g = c.args.g.now in
    let t = c.in_ok-weighted.weighted in
    let h = c.in_ok-weighted.ensures.value in
    let columns = c.in_ok-columns.columns in
    let k = c.in_ok-columns.ensures in
    wide_same g.cols g.cols
    (matrix_product_size t.cols (entry_of t) (transpose_of columns))
    (weighted_gram_size (length g.rows) (at c.args.weights.now) (entry_of g))
    (λ j l p q. gram_size_same g t columns (at c.args.weights.now) h k j l p q)
    (rw (h.rows, k.rows) at (c.row_products.ensures.wide e))
