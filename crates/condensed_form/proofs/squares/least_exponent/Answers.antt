use Rattle.std.proofs.Common.{◌*◌, arith}
use Rattle.condensed_form.proofs.SquareLaws.{least_divided, none_divided}
use Rattle.condensed_form.proofs.squares.least_exponent.Goals as goal

pub returns-in_err-need : goal.returns-in_err-need
returns-in_err-need c =
    let n = c.in_err-need.ensures in
    rw c.from_residual.ensures (none_divided (c.args.factor * c.args.squares) c.args.unit c.args.part c.requires.part c.requires.unit (omega (arith, n)))

pub returns : goal.returns
returns c = least_divided (c.args.factor * c.args.squares) c.args.unit c.args.part c.least_power.result c.requires.part (rw c.in_ok-need.ensures.1 at c.least_power.ensures)
