use Rattle.std.proofs.Common.{length, rules, refl, FitsSigned}
use Rattle.std.specs.Int.{w128}
use Rattle.mat_int.specs.Row.{abs_sum}
use Rattle.mat_int.proofs.Indices.{abs_sum_is}
use Rattle.hessian_check.proofs.RowLaws.{small_told}
use Rattle.hessian_check.proofs.row_test.is_small_row.Goals as goal

pub returns-in-Some : goal.returns-in-Some
returns-in-Some c =
    let xs = c.args.row.now in
    let f : FitsSigned w128 c.in-Some.sum = search rules in
    λ t. small_told c.in-Some.sum (abs_sum xs) f c.in-Some.ensures.1 (abs_sum_is (length xs) xs refl) t
