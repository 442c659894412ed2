use Rattle.std.proofs.Common.{◌≡◌, ◌<◌, ◌∙◌, ℕ, ℤ, unsigned_abs, FitsSigned, ap, refl, arith, rules}
use Rattle.std.specs.Int.{w128}
use Rattle.std.proofs.lemmas.Int.{to_z-of_z}
use Rattle.integer_algebra.specs.Sums.{at}
use Rattle.integer_algebra.proofs.SizeLaws.{amount_more, amount_next}
use Rattle.settle_check.specs.ClosedRows.{rounded_row}
use Rattle.settle_check.specs.Course.{plant}
use Rattle.settle_check.proofs.closed.ClosedLoop.rounded_sum.Goals as goal

pub returns-in_err-sum-clause-room : goal.returns-in_err-sum-clause-room
returns-in_err-sum-clause-room c =
    let i = c.loop-i.i in
    let row : ℕ → ℤ = rounded_row (plant c.args.self.now) (at c.args.row.now) in
    let x : FitsSigned w128 c.rounded_at.result = search rules in
    let v : c.unsigned_abs.result ≡ unsigned_abs (row i) = c.unsigned_abs.ensures.value ∙ ap unsigned_abs (to_z-of_z w128 _ x ∙ c.rounded_at.ensures) in
    let n = c.args.self.now.parts.now.states in
    let lt : i < n = omega (arith, c.loop-i-test.true, c.loop-i.invariant.end) in
    rw c.from_residual.ensures (λ s. cc, λ fits. absurd (c.in_err-sum.ensures (omega (arith, fits, v, c.loop-i.invariant.sum, amount_next i n (λ k. unsigned_abs (row k)) lt))))

pub loop-i-preserved : goal.loop-i-preserved
loop-i-preserved c =
    let i = c.loop-i.i in
    let row : ℕ → ℤ = rounded_row (plant c.args.self.now) (at c.args.row.now) in
    let x : FitsSigned w128 c.rounded_at.result = search rules in
    let v : c.unsigned_abs.result ≡ unsigned_abs (row i) = c.unsigned_abs.ensures.value ∙ ap unsigned_abs (to_z-of_z w128 _ x ∙ c.rounded_at.ensures) in
    record {
      end = c.loop-i.invariant.end;
      sum = c.in_ok-sum.ensures.1 ∙ rw (amount_more i (λ k. unsigned_abs (row k)), c.loop-i.invariant.sum, v) refl;
      room = omega (arith, c.in_ok-sum.ensures.0, c.in_ok-sum.ensures.1);
    }
