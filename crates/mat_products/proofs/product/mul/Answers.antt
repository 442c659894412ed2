use Rattle.std.proofs.Common.{length}
use Rattle.std.proofs.lemmas.Result.{IfOk-weaker, on_ok_weaker}
use Rattle.integer_algebra.specs.Matrices.{matrix_product, matrix_product_size}
use Rattle.mat_int.specs.Matrix.{entry_of, transpose_of, HasEntries}
use Rattle.mat_int.proofs.MatrixLaws.{entries_same}
use Rattle.mat_products.proofs.ProductLaws.{fit_same, wide_same, product_same, product_size_same}
use Rattle.mat_products.proofs.product.mul.Goals as goal

pub returns-clause-value : goal.returns-clause-value
returns-clause-value c =
    let a = c.args.a.now in
    let b = c.args.b.now in
    let t = c.in_ok-columns.columns in
    let h = c.in_ok-columns.ensures in
    IfOk-weaker _
    (HasEntries (length a.rows) b.cols (matrix_product a.cols (entry_of a) (transpose_of t)))
    (HasEntries (length a.rows) b.cols (matrix_product a.cols (entry_of a) (entry_of b)))
    (λ m. entries_same (length a.rows) b.cols _ _ m (λ i j p q. product_same b t h a c.requires i j q))
    (rw h.rows at c.row_products.ensures.value)

pub returns-clause-fits : goal.returns-clause-fits
returns-clause-fits c =
    let a = c.args.a.now in
    let b = c.args.b.now in
    let t = c.in_ok-columns.columns in
    let h = c.in_ok-columns.ensures in
    on_ok_weaker _ (fit_same (length a.rows) b.cols
    (matrix_product_size a.cols (entry_of a) (transpose_of t))
    (matrix_product_size a.cols (entry_of a) (entry_of b))
    (λ i j p q. product_size_same b t h a c.requires i j q))
    (rw h.rows at c.row_products.ensures.fits)

pub returns-clause-wide : goal.returns-clause-wide
returns-clause-wide c = λ e.
    let a = c.args.a.now in
    let b = c.args.b.now in
    let t = c.in_ok-columns.columns in
    let h = c.in_ok-columns.ensures in
    wide_same (length a.rows) b.cols
    (matrix_product_size a.cols (entry_of a) (transpose_of t))
    (matrix_product_size a.cols (entry_of a) (entry_of b))
    (λ i j p q. product_size_same b t h a c.requires i j q)
    (rw h.rows at (c.row_products.ensures.wide e))
