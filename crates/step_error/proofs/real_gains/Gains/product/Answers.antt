use Rattle.std.proofs.Common.{◌<◌, ◌*ℤ◌, FitsSigned, rules, arith, refl}
use Rattle.std.specs.Int.{w128}
use Rattle.std.proofs.lemmas.Int.{to_z-of_z}
use Rattle.mat_int.specs.Matrix.{entry_of}
use Rattle.condensed_form.specs.Form.{held}
use Rattle.integer_algebra.proofs.SizeLaws.{product_room, dot_room}
use Rattle.integer_algebra.proofs.SumLaws.{total_more}
use Rattle.step_error.specs.Gains.{gain_at}
use Rattle.step_error.proofs.GainRooms.{terms_small}
use Rattle.step_error.proofs.real_gains.Gains.product.Goals as goal

pub overflow_mul-sum : goal.overflow_mul-sum
overflow_mul-sum c =
    let self = c.args.self.now in
    let h = held self.c.now in
    let a : FitsSigned w128 c.at.result = search rules in
    let g : FitsSigned w128 c.gain.result = search rules in
    let l : c.loop-l.l < h.entries = omega (arith, c.loop-l-test.true, c.rows-l-end.ensures.count) in
    rw (to_z-of_z w128 _ a, to_z-of_z w128 _ g, c.at.ensures, c.gain.ensures)
    (product_room h.entries (entry_of self.c.now.hess c.args.j) (gain_at self.p_mat.now self.t.now self.w_mat.now c.args.i) c.loop-l.l l
    (terms_small self.c.now _ _ _ _ _ _ self.made c.args.i c.args.j c.requires.column c.requires.entry))

pub overflow_add-sum : goal.overflow_add-sum
overflow_add-sum c =
    let self = c.args.self.now in
    let h = held self.c.now in
    let a : FitsSigned w128 c.at.result = search rules in
    let g : FitsSigned w128 c.gain.result = search rules in
    let l : c.loop-l.l < h.entries = omega (arith, c.loop-l-test.true, c.rows-l-end.ensures.count) in
    let room = terms_small self.c.now _ _ _ _ _ _ self.made c.args.i c.args.j c.requires.column c.requires.entry in
    let fits = product_room h.entries (entry_of self.c.now.hess c.args.j) (gain_at self.p_mat.now self.t.now self.w_mat.now c.args.i) c.loop-l.l l room in
    rw (to_z-of_z w128 _ a, to_z-of_z w128 _ g, c.at.ensures, c.gain.ensures, to_z-of_z w128 _ fits, c.loop-l.invariant)
    (dot_room h.entries (entry_of self.c.now.hess c.args.j) (gain_at self.p_mat.now self.t.now self.w_mat.now c.args.i) c.loop-l.l l room)

pub loop-l-preserved : goal.loop-l-preserved
loop-l-preserved c =
    let self = c.args.self.now in
    let h = held self.c.now in
    let a : FitsSigned w128 c.at.result = search rules in
    let g : FitsSigned w128 c.gain.result = search rules in
    let l : c.loop-l.l < h.entries = omega (arith, c.loop-l-test.true, c.rows-l-end.ensures.count) in
    let room = terms_small self.c.now _ _ _ _ _ _ self.made c.args.i c.args.j c.requires.column c.requires.entry in
    let fits = product_room h.entries (entry_of self.c.now.hess c.args.j) (gain_at self.p_mat.now self.t.now self.w_mat.now c.args.i) c.loop-l.l l room in
    let sum = dot_room h.entries (entry_of self.c.now.hess c.args.j) (gain_at self.p_mat.now self.t.now self.w_mat.now c.args.i) c.loop-l.l l room in
    rw (
      to_z-of_z w128 _ a,
      to_z-of_z w128 _ g,
      c.at.ensures,
      c.gain.ensures,
      to_z-of_z w128 _ fits,
      c.loop-l.invariant,
      to_z-of_z w128 _ sum,
      total_more c.loop-l.l (λ k. entry_of self.c.now.hess c.args.j k *ℤ gain_at self.p_mat.now self.t.now self.w_mat.now c.args.i k),
    ) refl

pub gain-requires-clause-column : goal.gain-requires-clause-column
gain-requires-clause-column c = c.requires.column
