use Rattle.integer_algebra.specs.Sums.{at}
use Rattle.mat_int.specs.Matrix.{row_of}
use Rattle.c_program.specs.Of.{is_product}
use Rattle.c_writer.proofs.Lists.{any_none, any_more}
use Rattle.c_writer.proofs.needed.has_column_product.Goals as goal

pub loop-j-init : goal.loop-j-init
loop-j-init c = any_none (λ j. is_product (at (row_of c.args.a.now j) c.args.k) c.args.top)

pub loop-j-preserved : goal.loop-j-preserved
loop-j-preserved c =
    any_more (λ j. is_product (at (row_of c.args.a.now j) c.args.k) c.args.top) c.loop-j.j c.loop-j.found c.has_product-next.result c.either-found.result c.loop-j.invariant c.has_product-next.ensures
    c.either-found.ensures
