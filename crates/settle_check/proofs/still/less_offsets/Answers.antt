use Rattle.std.proofs.Common.{◌≡◌, ℕ, ◌+◌, ◌*◌, ◌<◌, ◌∙◌, ℤ, pos, ◌-ℤ◌, ◌*ℤ◌, unsigned_abs, arith, rules, refl, FitsSigned, to_z, of_z}
use Rattle.std.specs.Int.{w128, int_max}
use Rattle.std.proofs.lemmas.Int.{to_z-of_z}
use Rattle.integer_algebra.specs.Sums.{at}
use Rattle.integer_algebra.proofs.SumLaws.{total_more}
use Rattle.integer_algebra.proofs.SizeLaws.{amount_term, amount_next, amount_more}
use Rattle.mat_int.specs.Matrix.{entry_of}
use Rattle.qp_model.specs.machine.Controller.{numbers, plan_length}
use Rattle.stay_check.proofs.SumFacts.{coordinate_at}
use Rattle.settle_check.proofs.still.less_offsets.Goals as goal

pub returns-in_err-most-clause-room : goal.returns-in_err-most-clause-room
returns-in_err-most-clause-room c =
    let f : FitsSigned w128 c.at.result = search rules in
    let g : FitsSigned w128 c.index.result.now = search rules in
    let n = plan_length (numbers c.args.c.now) in
    let lt : c.loop-l.l < n = omega (arith, c.loop-l-test.true, c.loop-l.invariant.end) in
    let term : ℕ → ℕ = λ k. unsigned_abs (entry_of c.args.c.now.g_mat c.args.i k) * (unsigned_abs (at c.args.c.now.t.items k) + 1) in
    let is : c.of.result.size * (unsigned_abs (to_z w128 (of_z w128 c.index.result.now)) + 1) ≡ term c.loop-l.l =
    rw (c.of.ensures.size, to_z-of_z w128 _ f, c.at.ensures, to_z-of_z w128 _ g, coordinate_at c.args.c.now.t.items n c.loop-l.l c.index.result.now c.requires.sized.shaped.offsets lt c.index.ensures) refl in
    rw c.from_residual.ensures (λ s. cc, λ h. c.in_err-most.ensures.room.1 (omega (arith, amount_term c.loop-l.l n term lt, is, h)))

pub returns-in_err-sum-clause-room : goal.returns-in_err-sum-clause-room
returns-in_err-sum-clause-room c =
    let f : FitsSigned w128 c.at.result = search rules in
    let g : FitsSigned w128 c.index.result.now = search rules in
    let n = plan_length (numbers c.args.c.now) in
    let lt : c.loop-l.l < n = omega (arith, c.loop-l-test.true, c.loop-l.invariant.end) in
    let term : ℕ → ℕ = λ k. unsigned_abs (entry_of c.args.c.now.g_mat c.args.i k) * (unsigned_abs (at c.args.c.now.t.items k) + 1) in
    let is : c.in_ok-most.most.size ≡ term c.loop-l.l =
    c.in_ok-most.ensures.size ∙ rw (c.of.ensures.size, to_z-of_z w128 _ f, c.at.ensures, to_z-of_z w128 _ g, coordinate_at c.args.c.now.t.items n c.loop-l.l c.index.result.now c.requires.sized.shaped.offsets lt c.index.ensures) refl in
    rw c.from_residual-in_err-sum.ensures (λ s. cc, λ h. c.in_err-sum.ensures.room.1 (omega (arith, amount_next c.loop-l.l n term lt, is, c.loop-l.invariant.size, h)))

pub loop-l-preserved : goal.loop-l-preserved
loop-l-preserved c =
    let f : FitsSigned w128 c.at.result = search rules in
    let g : FitsSigned w128 c.index.result.now = search rules in
    let n = plan_length (numbers c.args.c.now) in
    let lt : c.loop-l.l < n = omega (arith, c.loop-l-test.true, c.loop-l.invariant.end) in
    let number : ℕ → ℤ = λ k. int_max (entry_of c.args.c.now.g_mat c.args.i k) (pos 0) -ℤ entry_of c.args.c.now.g_mat c.args.i k *ℤ at c.args.c.now.t.items k in
    let term : ℕ → ℕ = λ k. unsigned_abs (entry_of c.args.c.now.g_mat c.args.i k) * (unsigned_abs (at c.args.c.now.t.items k) + 1) in
    let read = coordinate_at c.args.c.now.t.items n c.loop-l.l c.index.result.now c.requires.sized.shaped.offsets lt c.index.ensures in
    let value : c.in_ok-most.most.value ≡ number c.loop-l.l = c.in_ok-most.ensures.value ∙ rw (c.of.ensures.value, to_z-of_z w128 _ f, c.at.ensures, to_z-of_z w128 _ g, read) refl in
    let size : c.in_ok-most.most.size ≡ term c.loop-l.l = c.in_ok-most.ensures.size ∙ rw (c.of.ensures.size, to_z-of_z w128 _ f, c.at.ensures, to_z-of_z w128 _ g, read) refl in
    record {
      end = c.loop-l.invariant.end;
      value = c.in_ok-sum.ensures.value ∙ rw (total_more c.loop-l.l number, c.loop-l.invariant.value, value) refl;
      size = c.in_ok-sum.ensures.size ∙ rw (amount_more c.loop-l.l term, c.loop-l.invariant.size, size) refl;
      room = omega (arith, c.in_ok-sum.ensures.room.0 refl, c.in_ok-sum.ensures.size);
    }
