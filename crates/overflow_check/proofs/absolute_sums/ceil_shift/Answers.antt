use Rattle.std.proofs.Common.{◌^◌, ◌<◌, arith}
use Rattle.std.proofs.lemmas.Nat.{pow_below}
use Rattle.overflow_check.proofs.absolute_sums.ceil_shift.Goals as goal

pub overflow_add-result : goal.overflow_add-result
overflow_add-result c =
    let small : 2 ^ c.args.k < 2 ^ 89 = pow_below c.args.k 89 (omega arith) in
    omega arith
