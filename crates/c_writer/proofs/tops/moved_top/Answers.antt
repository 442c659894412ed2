use Rattle.std.proofs.Common.{◌≡◌, ◌∙◌, ℤ, unsigned_abs, FitsSigned, ap, rules, arith}
use Rattle.std.specs.Int.{w128}
use Rattle.std.proofs.lemmas.Int.{to_z-of_z}
use Rattle.qp_model.specs.machine.Controller.{numbers}
use Rattle.c_writer.proofs.Rooms.{fit_of}
use Rattle.c_writer.proofs.Held.{fast_moved_room}
use Rattle.c_writer.proofs.tops.moved_top.Goals as goal

pub overflow_add-result : goal.overflow_add-result
overflow_add-result c =
    let n = numbers c.args.from.now.c.now in
    let x : FitsSigned w128 c.args.from.now.c.now.clamp = search rules in
    let clamp : c.unsigned_abs-clamp.result ≡ unsigned_abs n.clamp = c.unsigned_abs-clamp.ensures.value ∙ ap (λ (z : ℤ). unsigned_abs z) (to_z-of_z w128 _ x) in
    rw (clamp, c.row_magnitude-row.ensures) (omega (arith, (fit_of n c.args.from.now.sound).next c.args.i c.requires.in_range))

pub overflow_mul-result-in-Accelerated : goal.overflow_mul-result-in-Accelerated
overflow_mul-result-in-Accelerated c =
    let n = numbers c.args.from.now.c.now in
    let sound = c.args.from.now.fast c.in-Accelerated.is in
    rw (c.from.ensures, c.row_magnitude-row.ensures) (omega (arith, fast_moved_room n c.args.i sound c.requires.in_range))

pub overflow_add-result-in-Accelerated-2 : goal.overflow_add-result-in-Accelerated-2
overflow_add-result-in-Accelerated-2 c =
    let n = numbers c.args.from.now.c.now in
    let sound = c.args.from.now.fast c.in-Accelerated.is in
    let x : FitsSigned w128 c.args.from.now.c.now.clamp = search rules in
    let clamp : c.unsigned_abs-clamp.result ≡ unsigned_abs n.clamp = c.unsigned_abs-clamp.ensures.value ∙ ap (λ (z : ℤ). unsigned_abs z) (to_z-of_z w128 _ x) in
    rw (clamp, c.from.ensures, c.row_magnitude-row.ensures) (omega (arith, fast_moved_room n c.args.i sound c.requires.in_range))
