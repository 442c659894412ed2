use Rattle.std.proofs.Common.{rules, ◌≡◌, ◌-ℤ◌, ◌*ℤ◌, FitsSigned, length, refl, to_z, of_z}
use Rattle.std.specs.Int.{w128}
use Rattle.std.proofs.lemmas.Int.{to_z-of_z}
use Rattle.integer_algebra.specs.Sums.{at}
use Rattle.mat_int.specs.Matrix.{entry_of, row_of}
use Rattle.approx_inverse.specs.Spans.{IsSpanWritten, cells}
use Rattle.approx_inverse.proofs.MoveLaws.{diagonal_positive}
use Rattle.approx_inverse.proofs.StepLaws.{entry_room, product_room, rest_room, stepped}
use Rattle.approx_inverse.proofs.descent.move_entry.Goals as goal

pub step_of-t-requires-clause-positive : goal.step_of-t-requires-clause-positive
step_of-t-requires-clause-positive c =
    diagonal_positive (length c.args.c.now) (entry_of c.args.h.now) c.args.floor c.args.j c.requires.inside c.requires.task.convex

pub overflow_sub-old : goal.overflow_sub-old
overflow_sub-old c =
    let t : FitsSigned w128 c.step_of-t.result = search rules in
    let o : FitsSigned w128 c.word-old.result = search rules in
    let q = c.requires in
    rw (to_z-of_z w128 _ o, c.word-old.ensures, to_z-of_z w128 _ t)
    (entry_room c.args.h.now c.args.c.now c.args.floor c.args.f c.args.region.now c.args.x.now c.args.r.now c.args.j c.step_of-t.result
    q.task q.placed q.descent q.inside c.step_of-t.ensures q.wide)

pub take_row-requires-clause-products : goal.take_row-requires-clause-products
take_row-requires-clause-products c =
    let t : FitsSigned w128 c.step_of-t.result = search rules in
    let q = c.requires in
    rw (to_z-of_z w128 _ t, c.row.ensures.value)
    (product_room c.args.h.now c.args.c.now c.args.floor c.args.f c.args.region.now c.args.x.now c.args.r.now c.args.j c.step_of-t.result
    q.task q.placed q.descent q.inside c.step_of-t.ensures q.wide)

pub take_row-requires-clause-results : goal.take_row-requires-clause-results
take_row-requires-clause-results c =
    let t : FitsSigned w128 c.step_of-t.result = search rules in
    let q = c.requires in
    rw (to_z-of_z w128 _ t, c.row.ensures.value)
    (rest_room c.args.h.now c.args.c.now c.args.floor c.args.f c.args.region.now c.args.x.now c.args.r.now c.args.j c.step_of-t.result
    q.task q.placed q.descent q.inside c.step_of-t.ensures q.wide c.set_word.new.self _ c.set_word.ensures.put)

pub returns : goal.returns
returns c =
    let tf : FitsSigned w128 c.step_of-t.result = search rules in
    let of : FitsSigned w128 c.word-old.result = search rules in
    let q = c.requires in
    let h = c.args.h.now in
    let w = c.args.region.now in
    let x = c.args.x.now in
    let r = c.args.r.now in
    let j = c.args.j in
    let t = c.step_of-t.result in
    let near = c.step_of-t.ensures in
    let room = entry_room h c.args.c.now c.args.floor c.args.f w x r j t q.task q.placed q.descent q.inside near q.wide in
    let z = to_z w128 (of_z w128 (to_z w128 (of_z w128 c.word-old.result) -ℤ to_z w128 (of_z w128 t))) in
    let is : z ≡ cells w.words x.start j -ℤ t = rw (to_z-of_z w128 _ of, c.word-old.ensures, to_z-of_z w128 _ tf, to_z-of_z w128 _ room) refl in
    let taken : IsSpanWritten c.set_word.new.self c.take_row.new.region r (λ k. cells c.set_word.new.self.words r.start k -ℤ t *ℤ at (row_of h j) k) =
    rw (to_z-of_z w128 _ tf, c.row.ensures.value) at c.take_row.ensures in
    let there = stepped h c.args.c.now c.args.floor c.args.f w x r j t q.task q.placed q.descent q.inside near q.wide c.set_word.new.self z c.set_word.ensures.put
    c.take_row.new.region is taken in
    record { descent = there.descent; lower = there.lower; kept = there.kept }
