use Rattle.std.proofs.Common.{◌≡◌, ◌<◌, max, FitsSigned, unsigned_abs, rules, arith, ap, ◌∙◌}
use Rattle.std.specs.Int.{w128}
use Rattle.std.proofs.lemmas.Int.{to_z-of_z}
use Rattle.qp_model.specs.form.Columns.{solve_matrix}
use Rattle.qp_model.proofs.SizeFacts.{greatest_more}
use Rattle.condensed_form.specs.Form.{held}
use Rattle.step_error.proofs.GainRooms.{diagonal_small, through}
use Rattle.step_error.proofs.Scaled.{product_fits, product_read}
use Rattle.step_error.proofs.real_gains.Gains.greatest_diagonal.Goals as goal

pub overflow_mul-self : goal.overflow_mul-self
overflow_mul-self c =
    let self = c.args.self.now in
    let limit : FitsSigned w128 self.c.now.limit_den = search rules in
    let a : FitsSigned w128 c.at.result = search rules in
    let l : c.loop-j.j < (held self.c.now).entries = omega (arith, c.loop-j-test.true, c.rows-j-end.ensures.count) in
    product_fits _ _ _ _ (to_z-of_z w128 _ limit) (to_z-of_z w128 _ a ∙ c.at.ensures)
    (through (diagonal_small self.c.now _ _ _ _ _ _ self.made c.loop-j.j l) (omega arith))

pub loop-j-preserved : goal.loop-j-preserved
loop-j-preserved c =
    let self = c.args.self.now in
    let limit : FitsSigned w128 self.c.now.limit_den = search rules in
    let a : FitsSigned w128 c.at.result = search rules in
    let l : c.loop-j.j < (held self.c.now).entries = omega (arith, c.loop-j-test.true, c.rows-j-end.ensures.count) in
    let product = product_read _ _ _ _ (to_z-of_z w128 _ limit) (to_z-of_z w128 _ a ∙ c.at.ensures)
    (through (diagonal_small self.c.now _ _ _ _ _ _ self.made c.loop-j.j l) (omega arith)) in
    let size : c.unsigned_abs.result ≡ unsigned_abs (solve_matrix (held self.c.now) c.loop-j.j c.loop-j.j) = c.unsigned_abs.ensures.value ∙ ap unsigned_abs product in
    rw (greatest_more c.loop-j.j (λ j. unsigned_abs (solve_matrix (held self.c.now) j j))) (c.max-most.ensures ∙ (λ i. max (c.loop-j.invariant i) (size i)))
