use Rattle.std.proofs.Common.{◌≡◌, ◌*◌, ◌^◌, ◌<◌, length, arith, ap, ◌∙◌, sym}
use Rattle.integer_algebra.specs.Sizes.{amount}
use Rattle.integer_algebra.proofs.PowerLaws.{pow-two}
use Rattle.integer_algebra.proofs.SizeLaws.{amount_term, amount_next, amount_more}
use Rattle.qp_model.proofs.SizeFacts.{side_under}
use Rattle.step_error.specs.ErrorSums.{farthest_entry, entry_error, entry_squares}
use Rattle.step_error.proofs.sums.gradient_squares.Goals as goal

pub returns-in_err-error : goal.returns-in_err-error
returns-in_err-error c =
    let j = c.loop-j.j in
    let m = c.args.hess.now in
    let l : j < length m.rows = omega (arith, c.loop-j-test.true, c.rows-j-end.ensures.count) in
    let error = entry_error (length m.rows) (farthest_entry m c.args.radii.now) c.args.scale c.args.combined in
    let term = amount_term j (length m.rows) (λ k. error k ^ 2) l in
    rw c.from_residual.ensures (λ h. c.in_err-error.ensures (side_under 1 (error j) (2 ^ 126) (omega arith) (omega (arith, h, term))))

pub returns-in_err-limited_product : goal.returns-in_err-limited_product
returns-in_err-limited_product c =
    let j = c.loop-j.j in
    let m = c.args.hess.now in
    let l : j < length m.rows = omega (arith, c.loop-j-test.true, c.rows-j-end.ensures.count) in
    let error = entry_error (length m.rows) (farthest_entry m c.args.radii.now) c.args.scale c.args.combined in
    let term = amount_term j (length m.rows) (λ k. error k ^ 2) l in
    rw (c.from_residual-in_err-limited_product.ensures) (λ h. c.in_err-limited_product.ensures
    (rw (c.in_ok-error.ensures.1, ← (pow-two (error j))) (omega (arith, h, term))))

pub returns-in_err-squares : goal.returns-in_err-squares
returns-in_err-squares c =
    let j = c.loop-j.j in
    let m = c.args.hess.now in
    let l : j < length m.rows = omega (arith, c.loop-j-test.true, c.rows-j-end.ensures.count) in
    let error = entry_error (length m.rows) (farthest_entry m c.args.radii.now) c.args.scale c.args.combined in
    let next = amount_next j (length m.rows) (λ k. error k ^ 2) l in
    rw (c.from_residual-in_err-squares.ensures) (λ h. c.in_err-squares.ensures
    (rw (c.in_ok-limited_product.ensures.1, c.in_ok-error.ensures.1, ← (pow-two (error j)), c.loop-j.invariant.is) (omega (arith, h, next))))

pub loop-j-preserved : goal.loop-j-preserved
loop-j-preserved c =
    let j = c.loop-j.j in
    let m = c.args.hess.now in
    let error = entry_error (length m.rows) (farthest_entry m c.args.radii.now) c.args.scale c.args.combined in
    let added : c.in_ok-limited_product.field-0 ≡ error j ^ 2 = c.in_ok-limited_product.ensures.1 ∙ ap (λ n. n * n) c.in_ok-error.ensures.1 ∙ sym (pow-two (error j)) in
    let more = amount_more j (λ k. error k ^ 2) in
    record {
      is = omega (arith, c.in_ok-squares.ensures.1, c.loop-j.invariant.is, added, more);
      small = omega (arith, c.in_ok-squares.ensures.0, c.in_ok-squares.ensures.1);
    }

pub returns : goal.returns
returns c =
    let m = c.args.hess.now in
    let ended : c.loop-j.j ≡ length m.rows = omega (arith, c.loop-j-test.false, c.loop-j.auto.j-end, c.rows-j-end.ensures.count) in
    let is : c.loop-j.squares ≡ entry_squares (length m.rows) (farthest_entry m c.args.radii.now) c.args.scale c.args.combined =
    c.loop-j.invariant.is ∙ ap (λ n. amount n (λ k. entry_error (length m.rows) (farthest_entry m c.args.radii.now) c.args.scale c.args.combined k ^ 2)) ended in
    (rw (← is) c.loop-j.invariant.small, is)
