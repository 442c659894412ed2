use Rattle.std.proofs.Common.{◌*◌, arith, ap}
use Rattle.condensed_form.proofs.stacked.count_of.Goals as goal

pub rows-requires : goal.rows-requires
rows-requires c = tt

pub rows-requires-2 : goal.rows-requires-2
rows-requires-2 c = tt

pub overflow_mul-result : goal.overflow_mul-result
overflow_mul-result c = omega (arith, ap (λ n. c.args.stages * n) c.rows.ensures.count, c.requires)

pub overflow_add-result : goal.overflow_add-result
overflow_add-result c = omega (arith, ap (λ n. c.args.stages * n) c.rows.ensures.count, c.rows-2.ensures.count, c.requires)
