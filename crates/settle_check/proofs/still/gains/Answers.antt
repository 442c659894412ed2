use Rattle.std.proofs.Common.{◌≡◌, ℕ, ◌*◌, ◌<◌, ◌∙◌, ℤ, ◌*ℤ◌, unsigned_abs, arith, rules, refl, FitsSigned}
use Rattle.std.specs.Int.{w128}
use Rattle.std.proofs.lemmas.Int.{to_z-of_z}
use Rattle.integer_algebra.proofs.SumLaws.{total_more}
use Rattle.integer_algebra.proofs.SizeLaws.{amount_term, amount_next, amount_more}
use Rattle.mat_int.specs.Matrix.{entry_of}
use Rattle.qp_model.specs.machine.Controller.{numbers, plan_length}
use Rattle.settle_check.proofs.still.gains.Goals as goal

pub returns-in_err-product-clause-room : goal.returns-in_err-product-clause-room
returns-in_err-product-clause-room c =
    let f : FitsSigned w128 c.at.result = search rules in
    let g : FitsSigned w128 c.at-in-loop-l.result = search rules in
    let n = plan_length (numbers c.args.c.now) in
    let term : ℕ → ℕ = λ k. unsigned_abs (entry_of c.args.c.now.p_mat k c.args.j) * unsigned_abs (entry_of c.args.c.now.g_mat c.args.i k) in
    let is : c.of-gain.result.size * c.of.result.size ≡ term c.loop-l.l = rw (c.of-gain.ensures.size, to_z-of_z w128 _ f, c.at.ensures, c.of.ensures.size, to_z-of_z w128 _ g, c.at-in-loop-l.ensures) refl in
    let lt : c.loop-l.l < n = omega (arith, c.loop-l-test.true, c.loop-l.invariant.end) in
    rw c.from_residual.ensures (λ s. cc, λ h. c.in_err-product.ensures.room.1 (omega (arith, amount_term c.loop-l.l n term lt, is, h)))

pub returns-in_err-sum-clause-room : goal.returns-in_err-sum-clause-room
returns-in_err-sum-clause-room c =
    let f : FitsSigned w128 c.at.result = search rules in
    let g : FitsSigned w128 c.at-in-loop-l.result = search rules in
    let n = plan_length (numbers c.args.c.now) in
    let term : ℕ → ℕ = λ k. unsigned_abs (entry_of c.args.c.now.p_mat k c.args.j) * unsigned_abs (entry_of c.args.c.now.g_mat c.args.i k) in
    let is : c.in_ok-product.product.size ≡ term c.loop-l.l = c.in_ok-product.ensures.size ∙ rw (c.of-gain.ensures.size, to_z-of_z w128 _ f, c.at.ensures, c.of.ensures.size, to_z-of_z w128 _ g, c.at-in-loop-l.ensures) refl in
    let lt : c.loop-l.l < n = omega (arith, c.loop-l-test.true, c.loop-l.invariant.end) in
    rw c.from_residual-in_err-sum.ensures (λ s. cc, λ h. c.in_err-sum.ensures.room.1 (omega (arith, amount_next c.loop-l.l n term lt, is, c.loop-l.invariant.size, h)))

pub loop-l-preserved : goal.loop-l-preserved
loop-l-preserved c =
    let f : FitsSigned w128 c.at.result = search rules in
    let g : FitsSigned w128 c.at-in-loop-l.result = search rules in
    let number : ℕ → ℤ = λ k. entry_of c.args.c.now.p_mat k c.args.j *ℤ entry_of c.args.c.now.g_mat c.args.i k in
    let term : ℕ → ℕ = λ k. unsigned_abs (entry_of c.args.c.now.p_mat k c.args.j) * unsigned_abs (entry_of c.args.c.now.g_mat c.args.i k) in
    let value : c.in_ok-product.product.value ≡ number c.loop-l.l = c.in_ok-product.ensures.value ∙ rw (c.of-gain.ensures.value, to_z-of_z w128 _ f, c.at.ensures, c.of.ensures.value, to_z-of_z w128 _ g, c.at-in-loop-l.ensures) refl in
    let size : c.in_ok-product.product.size ≡ term c.loop-l.l = c.in_ok-product.ensures.size ∙ rw (c.of-gain.ensures.size, to_z-of_z w128 _ f, c.at.ensures, c.of.ensures.size, to_z-of_z w128 _ g, c.at-in-loop-l.ensures) refl in
    record {
      end = c.loop-l.invariant.end;
      value = c.in_ok-sum.ensures.value ∙ rw (total_more c.loop-l.l number, c.loop-l.invariant.value, value) refl;
      size = c.in_ok-sum.ensures.size ∙ rw (amount_more c.loop-l.l term, c.loop-l.invariant.size, size) refl;
      room = omega (arith, c.in_ok-sum.ensures.room.0 refl, c.in_ok-sum.ensures.size);
    }
