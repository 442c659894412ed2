use Rattle.std.proofs.Common.{rules, FitsSigned}
use Rattle.std.specs.Int.{w128}
use Rattle.step_error.proofs.Scaled.{one_fits, two_fits, three_fits, four_fits, four_is}
use Rattle.step_error.proofs.real_gains.row_number.Goals as goal

pub overflow_mul-result : goal.overflow_mul-result
overflow_mul-result c =
    let w : FitsSigned w128 c.args.c.now.weight_den = search rules in
    one_fits c.args.x _ _ _ c.requires.row c.requires.power c.requires.small c.ranges.x w

pub overflow_mul-result-2 : goal.overflow_mul-result-2
overflow_mul-result-2 c =
    let w : FitsSigned w128 c.args.c.now.weight_den = search rules in
    let r : FitsSigned w128 c.args.c.now.cost_row_den = search rules in
    two_fits c.args.x _ _ _ c.requires.row c.requires.power c.requires.small c.ranges.x w r

pub overflow_mul-result-3 : goal.overflow_mul-result-3
overflow_mul-result-3 c =
    let w : FitsSigned w128 c.args.c.now.weight_den = search rules in
    let r : FitsSigned w128 c.args.c.now.cost_row_den = search rules in
    three_fits c.args.x _ _ _ c.requires.row c.requires.power c.requires.small c.ranges.x w r

pub overflow_mul-result-4 : goal.overflow_mul-result-4
overflow_mul-result-4 c =
    let w : FitsSigned w128 c.args.c.now.weight_den = search rules in
    let r : FitsSigned w128 c.args.c.now.cost_row_den = search rules in
    let p : FitsSigned w128 c.args.c.now.power = search rules in
    four_fits c.args.x _ _ _ c.requires.row c.requires.power c.requires.small c.ranges.x w r p

pub returns : goal.returns
returns c =
    let w : FitsSigned w128 c.args.c.now.weight_den = search rules in
    let r : FitsSigned w128 c.args.c.now.cost_row_den = search rules in
    let p : FitsSigned w128 c.args.c.now.power = search rules in
    four_is c.args.x _ _ _ c.requires.row c.requires.power c.requires.small c.ranges.x w r p
