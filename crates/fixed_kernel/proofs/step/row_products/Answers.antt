use Rattle.std.proofs.Common.{◌≡◌, ℤ, ◌+ℤ◌, pos, rules, FitsSigned, arith, [], refl, ◌∙◌}
use Rattle.std.specs.Int.{w128}
use Rattle.std.proofs.lemmas.Int.{ints, to_z-of_z}
use Rattle.mat_int.specs.Row.{list_dot}
use Rattle.mat_int.specs.Matrix.{row_of}
use Rattle.qp_model.specs.machine.Controller.{numbers}
use Rattle.fixed_kernel.proofs.Rooms.{state_long, plan_long, planned_room, state_room}
use Rattle.fixed_kernel.proofs.Factors.{state_narrow, plan_narrow}
use Rattle.fixed_kernel.proofs.step.row_products.Goals as goal

from_zero : (z : ℤ) → pos 0 +ℤ z ≡ z
from_zero z = omega (arith, ints)

-- ---- the plan's sum
pub sum_of_products-planned-requires-clause-lengths : goal.sum_of_products-planned-requires-clause-lengths
sum_of_products-planned-requires-clause-lengths c =
    omega (arith, c.row.ensures.len, c.requires.setting.sound.form.sized.shaped.plan_rows.cols, c.requires.setting.sound.form.sized.shaped.offsets, plan_long (numbers c.args.c.now) c.args.plan.now c.requires.plan)

pub sum_of_products-planned-requires-clause-left : goal.sum_of_products-planned-requires-clause-left
sum_of_products-planned-requires-clause-left c = λ t.
    let shaped = c.requires.setting.sound.form.sized.shaped in
    rw c.row.ensures.value ((c.requires.setting.narrow t).plan_rows c.args.i [] (omega (arith, c.requires.in_range, shaped.bounds, shaped.plan_rows.rows)))

pub sum_of_products-planned-requires-clause-right : goal.sum_of_products-planned-requires-clause-right
sum_of_products-planned-requires-clause-right c = λ t. plan_narrow (numbers c.args.c.now) c.args.plan.now c.requires.setting.sound (c.requires.setting.narrow t) c.requires.plan

pub sum_of_products-planned-requires-clause-room : goal.sum_of_products-planned-requires-clause-room
sum_of_products-planned-requires-clause-room c = rw c.row.ensures.value (omega (arith, planned_room (numbers c.args.c.now) c.args.plan.now c.args.i c.requires.setting.sound c.requires.in_range c.requires.plan))

-- ---- the state's products on top of it
pub sum_of_products-requires-clause-lengths : goal.sum_of_products-requires-clause-lengths
sum_of_products-requires-clause-lengths c =
    omega (arith, c.row-2.ensures.len, c.requires.setting.sound.form.sized.shaped.state_rows.cols, state_long (numbers c.args.c.now) c.args.state.now c.requires.setting.sound c.requires.setting.state)

pub sum_of_products-requires-clause-left : goal.sum_of_products-requires-clause-left
sum_of_products-requires-clause-left c = λ t.
    let shaped = c.requires.setting.sound.form.sized.shaped in
    rw c.row-2.ensures.value ((c.requires.setting.narrow t).state_rows c.args.i [] (omega (arith, c.requires.in_range, shaped.bounds, shaped.state_rows.rows)))

pub sum_of_products-requires-clause-right : goal.sum_of_products-requires-clause-right
sum_of_products-requires-clause-right c = λ t. state_narrow (numbers c.args.c.now) c.args.state.now c.requires.setting.sound (c.requires.setting.narrow t) c.requires.setting.state

pub sum_of_products-requires-clause-room : goal.sum_of_products-requires-clause-room
sum_of_products-requires-clause-room c =
    let n = numbers c.args.c.now in
    let made : FitsSigned w128 c.sum_of_products-planned.result = search rules in
    let planned : c.sum_of_products-planned.result ≡ list_dot (row_of n.plan_rows c.args.i) c.args.plan.now = rw c.row.ensures.value at c.sum_of_products-planned.ensures ∙ from_zero _ in
    rw (to_z-of_z w128 _ made, planned, c.row-2.ensures.value) (state_room n c.args.state.now c.args.plan.now c.args.i c.requires.setting.sound c.requires.in_range c.requires.setting.state c.requires.plan)

pub returns : goal.returns
returns c =
    let n = numbers c.args.c.now in
    let made : FitsSigned w128 c.sum_of_products-planned.result = search rules in
    let sum : FitsSigned w128 c.sum_of_products.result = search rules in
    let planned : c.sum_of_products-planned.result ≡ list_dot (row_of n.plan_rows c.args.i) c.args.plan.now = rw c.row.ensures.value at c.sum_of_products-planned.ensures ∙ from_zero _ in
    rw (to_z-of_z w128 _ sum, c.sum_of_products.ensures, to_z-of_z w128 _ made, planned, c.row-2.ensures.value) refl
