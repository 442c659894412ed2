use Rattle.std.proofs.Common.{◌≡◌, ◌+◌, ◌*◌, ◌^◌, ◌+ℤ◌, arith, refl}
use Rattle.integer_algebra.specs.Sums.{at}
use Rattle.qp_model.specs.problem.Parts.{design_of}
use Rattle.qp_model.specs.machine.Controller.{numbers}
use Rattle.settle_check.specs.Still.{box_of}
use Rattle.settle_check.specs.ClosedRows.{turn_rest}
use Rattle.settle_check.specs.TurnSize.{inputs_size, turn_rest_size}
use Rattle.settle_check.proofs.CountedFacts.{le_power_times}
use Rattle.settle_check.proofs.rows.turn_rest.Goals as goal

pub returns-in_err-left-clause-room : goal.returns-in_err-left-clause-room
returns-in_err-left-clause-room c = rw c.from_residual.ensures (λ s. cc, λ h. c.in_err-left.ensures.room.1 (omega (arith, h)))

pub returns-in_err-inputs_less-clause-room : goal.returns-in_err-inputs_less-clause-room
returns-in_err-inputs_less-clause-room c =
    let n = inputs_size (design_of c.args.parts.now) (numbers c.args.c.now) (at c.args.row.now) in
    rw c.from_residual-in_err-inputs_less.ensures (λ s. cc, λ h. c.in_err-inputs_less.ensures.room.1 (omega (arith, le_power_times c.args.parts.now.grid n, h)))

pub returns-in_err-inputs-clause-room : goal.returns-in_err-inputs-clause-room
returns-in_err-inputs-clause-room c =
    let n = inputs_size (design_of c.args.parts.now) (numbers c.args.c.now) (at c.args.row.now) in
    let is : c.power.result.size * c.in_ok-inputs_less.field-0.size ≡ 2 ^ c.args.parts.now.grid * n = rw (c.power.ensures.size, c.in_ok-inputs_less.ensures.size) refl in
    rw c.from_residual-in_err-inputs.ensures (λ s. cc, λ h. c.in_err-inputs.ensures.room.1 (omega (arith, is, h)))

pub returns-clause-value : goal.returns-clause-value
returns-clause-value c =
    let e : c.in_ok-left.left.value +ℤ c.in_ok-inputs.inputs.value ≡ turn_rest (design_of c.args.parts.now) (numbers c.args.c.now) (box_of c.args.low.now c.args.high.now) (at c.args.row.now) (at c.args.next.now) =
    rw (c.in_ok-left.ensures.value, c.in_ok-inputs.ensures.value, c.power.ensures.value, c.in_ok-inputs_less.ensures.value) refl in
    rw e at c.plus.ensures.value

pub returns-clause-size : goal.returns-clause-size
returns-clause-size c =
    let e : c.in_ok-left.left.size + c.in_ok-inputs.inputs.size ≡ turn_rest_size (design_of c.args.parts.now) (numbers c.args.c.now) (box_of c.args.low.now c.args.high.now) (at c.args.row.now) (at c.args.next.now) =
    rw (c.in_ok-left.ensures.size, c.in_ok-inputs.ensures.size, c.power.ensures.size, c.in_ok-inputs_less.ensures.size) refl in
    rw e at c.plus.ensures.size

pub returns-clause-room : goal.returns-clause-room
returns-clause-room c =
    let e : c.in_ok-left.left.size + c.in_ok-inputs.inputs.size ≡ turn_rest_size (design_of c.args.parts.now) (numbers c.args.c.now) (box_of c.args.low.now c.args.high.now) (at c.args.row.now) (at c.args.next.now) =
    rw (c.in_ok-left.ensures.size, c.in_ok-inputs.ensures.size, c.power.ensures.size, c.in_ok-inputs_less.ensures.size) refl in
    rw e at c.plus.ensures.room
