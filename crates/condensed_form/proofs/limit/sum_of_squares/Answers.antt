use Rattle.std.proofs.Common.{◌≡◌, ◌^◌, ◌∙◌, length, unsigned_abs, arith, refl}
use Rattle.integer_algebra.specs.Sizes.{amount}
use Rattle.integer_algebra.proofs.SizeLaws.{amount_more, amount_next}
use Rattle.mat_int.specs.Matrix.{entry_of}
use Rattle.qp_model.specs.form.Form.{farthest}
use Rattle.condensed_form.proofs.limit.sum_of_squares.Goals as goal

pub squares_of_row-sum-requires-clause-room : goal.squares_of_row-sum-requires-clause-room
squares_of_row-sum-requires-clause-room c =
    let m = c.args.mid.now in
    let r = c.args.rad.now in
    let t = amount_next c.loop-i.i (length m.rows) (λ i. amount m.cols (λ j. farthest (entry_of m i j) (unsigned_abs (entry_of r i j)) ^ 2)) (omega arith) in
    rw (c.row.ensures.len, c.row.ensures.value, c.row-in-loop-i.ensures.value) (omega (arith, t, c.requires.room))

pub overflow_add-sum : goal.overflow_add-sum
overflow_add-sum c =
    let m = c.args.mid.now in
    let r = c.args.rad.now in
    let e : c.squares_of_row-sum.result ≡ amount m.cols (λ j. farthest (entry_of m c.loop-i.i j) (unsigned_abs (entry_of r c.loop-i.i j)) ^ 2) =
    c.squares_of_row-sum.ensures ∙ rw (c.row.ensures.len, c.row.ensures.value, c.row-in-loop-i.ensures.value) refl in
    let t = amount_next c.loop-i.i (length m.rows) (λ i. amount m.cols (λ j. farthest (entry_of m i j) (unsigned_abs (entry_of r i j)) ^ 2)) (omega arith) in
    omega (arith, e, t, c.requires.room)

pub loop-i-preserved : goal.loop-i-preserved
loop-i-preserved c =
    let m = c.args.mid.now in
    let r = c.args.rad.now in
    let e : c.squares_of_row-sum.result ≡ amount m.cols (λ j. farthest (entry_of m c.loop-i.i j) (unsigned_abs (entry_of r c.loop-i.i j)) ^ 2) =
    c.squares_of_row-sum.ensures ∙ rw (c.row.ensures.len, c.row.ensures.value, c.row-in-loop-i.ensures.value) refl in
    let t = amount_more c.loop-i.i (λ i. amount m.cols (λ j. farthest (entry_of m i j) (unsigned_abs (entry_of r i j)) ^ 2)) in
    omega (arith, e, t)
