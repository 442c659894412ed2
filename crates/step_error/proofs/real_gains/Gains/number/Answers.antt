use Rattle.std.proofs.Common.{◌≡◌, ◌<◌, pos, FitsSigned, length, rules, arith, sym, ◌∙◌}
use Rattle.std.specs.Int.{w128}
use Rattle.std.proofs.lemmas.Int.{to_z-of_z}
use Rattle.std.proofs.lemmas.List.{get_or_read}
use Rattle.integer_algebra.specs.Sums.{at}
use Rattle.step_error.proofs.GainRooms.{number_small, state_number, own_number, row_number}
use Rattle.step_error.proofs.Scaled.{product_fits, product_read}
use Rattle.step_error.proofs.real_gains.Gains.number.Goals as goal

pub overflow_mul-result : goal.overflow_mul-result
overflow_mul-result c =
    let self = c.args.self.now in
    let l : FitsSigned w128 self.c.now.limit_den = search rules in
    let a : FitsSigned w128 c.at.result = search rules in
    let inside : c.args.i < self.c.now.lin.cols = omega (arith, c.if-i-states.true, c.cols-states.ensures) in
    product_fits _ _ _ _ (to_z-of_z w128 _ l) (to_z-of_z w128 _ a ∙ c.at.ensures)
    (rw (← (state_number self.c.now c.args.i c.args.j inside)) (number_small self.c.now _ _ _ _ _ _ self.made c.args.i c.args.j c.requires.column c.requires.entry))

pub returns-then-i-states : goal.returns-then-i-states
returns-then-i-states c =
    let self = c.args.self.now in
    let l : FitsSigned w128 self.c.now.limit_den = search rules in
    let a : FitsSigned w128 c.at.result = search rules in
    let inside : c.args.i < self.c.now.lin.cols = omega (arith, c.if-i-states.true, c.cols-states.ensures) in
    product_read _ _ _ _ (to_z-of_z w128 _ l) (to_z-of_z w128 _ a ∙ c.at.ensures)
    (rw (← (state_number self.c.now c.args.i c.args.j inside)) (number_small self.c.now _ _ _ _ _ _ self.made c.args.i c.args.j c.requires.column c.requires.entry))
    ∙ sym (state_number self.c.now c.args.i c.args.j inside)

pub overflow_mul-result-then-i-states-2 : goal.overflow_mul-result-then-i-states-2
overflow_mul-result-then-i-states-2 c =
    let self = c.args.self.now in
    let l : FitsSigned w128 self.c.now.limit_den = search rules in
    let a : FitsSigned w128 c.index.result.now = search rules in
    let inside : c.args.j < length self.c.now.off.items = omega (arith, c.requires.entry, self.made.systems.shapes.off) in
    let read : c.index.result.now ≡ at self.c.now.off.items c.args.j = get_or_read self.c.now.off.items _ _ inside c.index.ensures (pos 0) in
    let last : c.args.i ≡ self.c.now.lin.cols = omega (arith, c.if-i-states-2.true, c.cols-states.ensures) in
    product_fits _ _ _ _ (to_z-of_z w128 _ l) (to_z-of_z w128 _ a ∙ read)
    (rw (← (own_number self.c.now c.args.i c.args.j last)) (number_small self.c.now _ _ _ _ _ _ self.made c.args.i c.args.j c.requires.column c.requires.entry))

pub returns-then-i-states-2 : goal.returns-then-i-states-2
returns-then-i-states-2 c =
    let self = c.args.self.now in
    let l : FitsSigned w128 self.c.now.limit_den = search rules in
    let a : FitsSigned w128 c.index.result.now = search rules in
    let inside : c.args.j < length self.c.now.off.items = omega (arith, c.requires.entry, self.made.systems.shapes.off) in
    let read : c.index.result.now ≡ at self.c.now.off.items c.args.j = get_or_read self.c.now.off.items _ _ inside c.index.ensures (pos 0) in
    let last : c.args.i ≡ self.c.now.lin.cols = omega (arith, c.if-i-states-2.true, c.cols-states.ensures) in
    product_read _ _ _ _ (to_z-of_z w128 _ l) (to_z-of_z w128 _ a ∙ read)
    (rw (← (own_number self.c.now c.args.i c.args.j last)) (number_small self.c.now _ _ _ _ _ _ self.made c.args.i c.args.j c.requires.column c.requires.entry))
    ∙ sym (own_number self.c.now c.args.i c.args.j last)

pub row_number-requires-clause-small : goal.row_number-requires-clause-small
row_number-requires-clause-small c =
    let self = c.args.self.now in
    let a : FitsSigned w128 c.at-else-i-states-2.result = search rules in
    let beyond : self.c.now.lin.cols < c.args.i = omega (arith, c.if-i-states.false, c.if-i-states-2.false, c.cols-states.ensures) in
    rw (to_z-of_z w128 _ a, c.at-else-i-states-2.ensures, c.cols-states.ensures, ← (row_number self.c.now c.args.i c.args.j beyond))
    (number_small self.c.now _ _ _ _ _ _ self.made c.args.i c.args.j c.requires.column c.requires.entry)

pub at-requires-clause-row_in : goal.at-requires-clause-row_in
at-requires-clause-row_in c = omega (arith, c.requires.entry, c.args.self.now.made.systems.shapes.lin.rows)

pub at-requires-clause-col_in : goal.at-requires-clause-col_in
at-requires-clause-col_in c = omega (arith, c.if-i-states.true, c.cols-states.ensures)

pub overflow_sub-i : goal.overflow_sub-i
overflow_sub-i c = omega (arith, c.if-i-states.false, c.if-i-states-2.false)

pub at-requires-else-i-states-2-clause-row_in : goal.at-requires-else-i-states-2-clause-row_in
at-requires-else-i-states-2-clause-row_in c = omega (arith, c.requires.column, c.if-i-states.false, c.if-i-states-2.false, c.cols-states.ensures)

pub at-requires-else-i-states-2-clause-col_in : goal.at-requires-else-i-states-2-clause-col_in
at-requires-else-i-states-2-clause-col_in c = omega (arith, c.requires.entry, c.args.self.now.made.systems.shapes.g.cols)

pub row_number-requires-clause-weight : goal.row_number-requires-clause-weight
row_number-requires-clause-weight c = c.args.self.now.made.systems.weight_den

pub row_number-requires-clause-row : goal.row_number-requires-clause-row
row_number-requires-clause-row c = c.args.self.now.made.systems.cost_row_den

pub row_number-requires-clause-power : goal.row_number-requires-clause-power
row_number-requires-clause-power c = c.args.self.now.made.systems.power
