use Rattle.std.proofs.Common.{◌≡◌, ◌^◌, ℤ, ◌+ℤ◌, neg_ℤ, pos, get_or, rules, FitsSigned, arith, [], ap, sym, ◌∙◌}
use Rattle.std.specs.Int.{w128}
use Rattle.std.proofs.lemmas.Int.{ints, to_z-of_z}
use Rattle.std.proofs.lemmas.List.{get_or_read}
use Rattle.integer_algebra.specs.Division.{floor_of}
use Rattle.integer_algebra.specs.Sums.{at}
use Rattle.mat_int.specs.Row.{list_dot}
use Rattle.mat_int.specs.Matrix.{row_of}
use Rattle.qp_model.specs.machine.Controller.{numbers}
use Rattle.fixed_kernel.proofs.Rooms.{state_long, multipliers_long, dual_room, inner_room, entry_room}
use Rattle.fixed_kernel.proofs.Factors.{state_narrow, multipliers_narrow}
use Rattle.fixed_kernel.proofs.Floors.{entry_floor}
use Rattle.fixed_kernel.proofs.step.entry_at.Goals as goal

from_zero : (z : ℤ) → pos 0 +ℤ z ≡ z
from_zero z = omega (arith, ints)

plus_comm : (a b : ℤ) → a +ℤ b ≡ b +ℤ a
plus_comm a b = omega (arith, ints)

-- ---- the multipliers' sum
pub sum_of_products-dual-requires-clause-lengths : goal.sum_of_products-dual-requires-clause-lengths
sum_of_products-dual-requires-clause-lengths c =
    omega (arith, c.row.ensures.len, c.requires.setting.sound.form.sized.shaped.dual_gains.cols, multipliers_long (numbers c.args.c.now) c.args.multipliers.now c.requires.setting.sound c.requires.multipliers)

pub sum_of_products-dual-requires-clause-left : goal.sum_of_products-dual-requires-clause-left
sum_of_products-dual-requires-clause-left c = λ t.
    let shaped = c.requires.setting.sound.form.sized.shaped in
    rw c.row.ensures.value ((c.requires.setting.narrow t).dual_gains c.args.j [] (omega (arith, c.requires.in_range, shaped.offsets, shaped.dual_gains.rows)))

pub sum_of_products-dual-requires-clause-right : goal.sum_of_products-dual-requires-clause-right
sum_of_products-dual-requires-clause-right c = λ t. multipliers_narrow (numbers c.args.c.now) c.args.multipliers.now (c.requires.setting.narrow t) c.requires.multipliers

pub sum_of_products-dual-requires-clause-room : goal.sum_of_products-dual-requires-clause-room
sum_of_products-dual-requires-clause-room c = rw c.row.ensures.value (omega (arith, dual_room (numbers c.args.c.now) c.args.multipliers.now c.args.j c.requires.setting.sound c.requires.in_range c.requires.multipliers))

-- ---- the state's products on top of it
pub sum_of_products-sum-requires-clause-lengths : goal.sum_of_products-sum-requires-clause-lengths
sum_of_products-sum-requires-clause-lengths c =
    omega (arith, c.row-2.ensures.len, c.requires.setting.sound.form.sized.shaped.state_gains.cols, state_long (numbers c.args.c.now) c.args.state.now c.requires.setting.sound c.requires.setting.state)

pub sum_of_products-sum-requires-clause-left : goal.sum_of_products-sum-requires-clause-left
sum_of_products-sum-requires-clause-left c = λ t.
    let shaped = c.requires.setting.sound.form.sized.shaped in
    rw c.row-2.ensures.value ((c.requires.setting.narrow t).state_gains c.args.j [] (omega (arith, c.requires.in_range, shaped.offsets, shaped.state_gains.rows)))

pub sum_of_products-sum-requires-clause-right : goal.sum_of_products-sum-requires-clause-right
sum_of_products-sum-requires-clause-right c = λ t. state_narrow (numbers c.args.c.now) c.args.state.now c.requires.setting.sound (c.requires.setting.narrow t) c.requires.setting.state

pub sum_of_products-sum-requires-clause-room : goal.sum_of_products-sum-requires-clause-room
sum_of_products-sum-requires-clause-room c =
    let n = numbers c.args.c.now in
    let products = list_dot (row_of n.dual_gains c.args.j) c.args.multipliers.now in
    let made : FitsSigned w128 c.sum_of_products-dual.result = search rules in
    let shifted : FitsSigned w128 c.short_shift.result = search rules in
    let dual : c.sum_of_products-dual.result ≡ products = rw c.row.ensures.value at c.sum_of_products-dual.ensures ∙ from_zero products in
    rw (to_z-of_z w128 _ shifted, c.short_shift.ensures, to_z-of_z w128 _ made, dual, c.row-2.ensures.value)
    (inner_room n c.args.state.now c.args.multipliers.now c.args.j c.requires.setting.sound c.requires.in_range c.requires.setting.state c.requires.multipliers)

-- ---- the entry
pub entry_from-requires-clause-fits : goal.entry_from-requires-clause-fits
entry_from-requires-clause-fits c =
    let n = numbers c.args.c.now in
    let products = list_dot (row_of n.dual_gains c.args.j) c.args.multipliers.now in
    let made : FitsSigned w128 c.sum_of_products-dual.result = search rules in
    let shifted : FitsSigned w128 c.short_shift.result = search rules in
    let sum : FitsSigned w128 c.sum_of_products-sum.result = search rules in
    let offset : FitsSigned w128 c.index.result.now = search rules in
    let read : c.index.result.now ≡ get_or c.args.c.now.t.items c.args.j (pos 0) = get_or_read _ _ _ c.requires.in_range c.index.ensures (pos 0) in
    let dual : c.sum_of_products-dual.result ≡ products = rw c.row.ensures.value at c.sum_of_products-dual.ensures ∙ from_zero products in
    rw (to_z-of_z w128 _ sum, to_z-of_z w128 _ offset, read, c.sum_of_products-sum.ensures, to_z-of_z w128 _ shifted, c.short_shift.ensures, to_z-of_z w128 _ made, dual, c.row-2.ensures.value)
    (entry_room n c.args.state.now c.args.multipliers.now c.args.j c.requires.setting.sound c.requires.in_range c.requires.setting.state c.requires.multipliers)

pub returns : goal.returns
returns c =
    let n = numbers c.args.c.now in
    let own = list_dot (row_of n.state_gains c.args.j) c.args.state.now in
    let products = list_dot (row_of n.dual_gains c.args.j) c.args.multipliers.now in
    let shift = floor_of products (2 ^ n.step_exponent) in
    let entry : FitsSigned w128 c.entry_from.result = search rules in
    let made : FitsSigned w128 c.sum_of_products-dual.result = search rules in
    let shifted : FitsSigned w128 c.short_shift.result = search rules in
    let sum : FitsSigned w128 c.sum_of_products-sum.result = search rules in
    let offset : FitsSigned w128 c.index.result.now = search rules in
    let read : c.index.result.now ≡ at n.offsets c.args.j = get_or_read _ _ _ c.requires.in_range c.index.ensures (pos 0) in
    let dual : c.sum_of_products-dual.result ≡ products = rw c.row.ensures.value at c.sum_of_products-dual.ensures ∙ from_zero products in
    let floored : c.sum_of_products-sum.result ≡ own +ℤ shift =
    rw (to_z-of_z w128 _ shifted, c.short_shift.ensures, to_z-of_z w128 _ made, dual, c.row-2.ensures.value) at c.sum_of_products-sum.ensures ∙ plus_comm shift own in
    rw (to_z-of_z w128 _ entry, c.entry_from.ensures, to_z-of_z w128 _ sum, to_z-of_z w128 _ offset, read, floored)
    (ap neg_ℤ (sym (entry_floor own (at n.offsets c.args.j) products n.fraction_bits n.step_exponent)))
