use Rattle.std.proofs.Common.{arith, ◌∙◌}
use Rattle.qp_model.specs.form.Class.{form_in}
use Rattle.qp_model.specs.problem.Parts.{design_of}
use Rattle.condensed_form.proofs.FormSums.{plan_squares}
use Rattle.condensed_form.proofs.LimitFacts.{covers_by, part_small, small, squares_are, unit_small}
use Rattle.condensed_form.proofs.limit.squares_exponent.Goals as goal

pub overflow_mul-unit : goal.overflow_mul-unit
overflow_mul-unit c =
    let f = c.requires.form in
    let s = c.scales_of-scales.ensures c.requires.fine c.requires.parts f in
    let b = unit_small (design_of c.requires.parts) (small c.requires.parts f.design) in
    rw s.limit_den (omega (arith, b.0))

pub overflow_mul-unit-2 : goal.overflow_mul-unit-2
overflow_mul-unit-2 c =
    let f = c.requires.form in
    let s = c.scales_of-scales.ensures c.requires.fine c.requires.parts f in
    let b = unit_small (design_of c.requires.parts) (small c.requires.parts f.design) in
    rw (s.limit_den, s.input_floor) (omega (arith, b.1))

pub overflow_mul-part : goal.overflow_mul-part
overflow_mul-part c =
    let s = c.scales_of-scales.ensures c.requires.fine c.requires.parts c.requires.form in
    let b = part_small c.requires.fine c.requires.parts c.args.c.now c.requires.form _ s.lift in
    omega (arith, b.high)

pub sum_of_squares-squares-requires-clause-room : goal.sum_of_squares-squares-requires-clause-room
sum_of_squares-squares-requires-clause-room c =
    let f = c.requires.form in
    let b = plan_squares c.requires.fine c.requires.parts c.args.c.now f in
    rw (f.shapes.g.rows, f.shapes.g.cols) (omega (arith, b, f.sizes.limit_room))

pub least_exponent-requires-clause-unit : goal.least_exponent-requires-clause-unit
least_exponent-requires-clause-unit c =
    let f = c.requires.form in
    let s = c.scales_of-scales.ensures c.requires.fine c.requires.parts f in
    let b = unit_small (design_of c.requires.parts) (small c.requires.parts f.design) in
    rw (s.limit_den, s.input_floor) b.1

pub least_exponent-requires-clause-part : goal.least_exponent-requires-clause-part
least_exponent-requires-clause-part c =
    let s = c.scales_of-scales.ensures c.requires.fine c.requires.parts c.requires.form in
    let b = part_small c.requires.fine c.requires.parts c.args.c.now c.requires.form _ s.lift in
    b.low

pub least_exponent-requires-clause-room : goal.least_exponent-requires-clause-room
least_exponent-requires-clause-room c =
    let s = c.scales_of-scales.ensures c.requires.fine c.requires.parts c.requires.form in
    let b = part_small c.requires.fine c.requires.parts c.args.c.now c.requires.form _ s.lift in
    rw s.weight_den (omega (arith, b.times))

pub returns : goal.returns
returns c = λ fine p f.
    let s = c.scales_of-scales.ensures fine p f in
    covers_by (design_of p) (form_in fine (design_of p)) c.least_exponent.result _ _ _ _ _ s.weight_den (c.sum_of_squares-squares.ensures ∙ squares_are fine p c.args.c.now f)
    s.input_floor s.limit_den s.lift c.least_exponent.ensures
