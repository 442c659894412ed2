use Rattle.std.proofs.Common.{arith}
use Rattle.condensed_form.proofs.SquareLaws.{ceil_parts}
use Rattle.condensed_form.proofs.squares.ceil_quotient.Goals as goal

pub returns-in_err-whole : goal.returns-in_err-whole
returns-in_err-whole c =
    let e = ceil_parts c.args.factor c.args.squares c.args.part c.requires.part in
    let n = c.in_err-whole.ensures in
    rw (c.from_residual.ensures, e) (λ l. n (omega (arith, l)))

pub returns : goal.returns
returns c =
    let e = ceil_parts c.args.factor c.args.squares c.args.part c.requires.part in
    rw (e, ← c.div_ceil.ensures, ← c.in_ok-whole.ensures.1) c.checked_add.ensures
