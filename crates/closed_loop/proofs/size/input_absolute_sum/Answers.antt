use Rattle.std.proofs.Common.{◌*◌, ◌<◌, ℕ, unsigned_abs, arith}
use Rattle.integer_algebra.proofs.SizeLaws.{amount_term, amount_next}
use Rattle.mat_int.specs.Matrix.{entry_of}
use Rattle.closed_loop.proofs.size.input_absolute_sum.Goals as goal

pub returns-in_err-input_term : goal.returns-in_err-input_term
returns-in_err-input_term g c =
    let a = g.M.ControlMachine.looping c.args.machine.now in
    let term : ℕ → ℕ = λ l. unsigned_abs (entry_of c.args.design.now.b c.args.i l) * (a.weight * a.magnitude l) in
    let lt : c.loop-l.l < c.args.design.now.inputs = omega arith in
    rw c.from_residual.ensures (λ h. c.in_err-input_term.ensures (omega (arith, amount_term c.loop-l.l c.args.design.now.inputs term lt, h)))

pub returns-in_err-sum : goal.returns-in_err-sum
returns-in_err-sum g c =
    let a = g.M.ControlMachine.looping c.args.machine.now in
    let term : ℕ → ℕ = λ l. unsigned_abs (entry_of c.args.design.now.b c.args.i l) * (a.weight * a.magnitude l) in
    let lt : c.loop-l.l < c.args.design.now.inputs = omega arith in
    rw c.from_residual-in_err-sum.ensures (λ h. c.in_err-sum.ensures (omega (arith, amount_next c.loop-l.l c.args.design.now.inputs term lt, c.loop-l.invariant.sum, c.in_ok-input_term.ensures.1, h)))
