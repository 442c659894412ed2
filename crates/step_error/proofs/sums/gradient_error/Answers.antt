use Rattle.std.proofs.Common.{◌≡◌, ◌<◌, ◌+◌, ◌*◌, length, arith, ap, ◌∙◌, refl}
use Rattle.integer_algebra.specs.Division.{ceil_div}
use Rattle.integer_algebra.specs.Sizes.{amount}
use Rattle.integer_algebra.proofs.SizeLaws.{amount_term}
use Rattle.step_error.specs.ErrorSums.{farthest_entry}
use Rattle.step_error.proofs.Ceilings.{quotient_is}
use Rattle.step_error.proofs.SumFacts.{kept, through}
use Rattle.step_error.proofs.sums.gradient_error.Goals as goal

pub farthest_at-requires-clause-small : goal.farthest_at-requires-clause-small
farthest_at-requires-clause-small c =
    let m = c.args.hess.now in
    let inside : c.args.j < m.cols = omega (arith, c.requires.inside, c.requires.square) in
    through (amount_term c.args.j m.cols (farthest_entry m c.args.radii.now c.args.j) inside) c.requires.small

pub returns-in_err-limited_product : goal.returns-in_err-limited_product
returns-in_err-limited_product c =
    let size = farthest_entry c.args.hess.now c.args.radii.now in
    let own : c.div_ceil-own.result ≡ ceil_div (size c.args.j c.args.j) (2 * c.args.scale) =
    quotient_is _ _ _ _ _ (omega (arith, c.requires.some)) c.div_ceil-own.ensures c.farthest_at.ensures refl in
    let row : c.div_ceil-row.result ≡ ceil_div (amount (length c.args.hess.now.rows) (size c.args.j)) c.args.scale =
    quotient_is _ _ _ _ _ c.requires.some c.div_ceil-row.ensures (rw c.requires.square at c.farthest_row.ensures) refl in
    rw (c.from_residual.ensures, ← own, ← row) (λ h. c.in_err-limited_product.ensures (omega (arith, h)))

pub returns : goal.returns
returns c =
    let size = farthest_entry c.args.hess.now c.args.radii.now in
    let own : c.div_ceil-own.result ≡ ceil_div (size c.args.j c.args.j) (2 * c.args.scale) =
    quotient_is _ _ _ _ _ (omega (arith, c.requires.some)) c.div_ceil-own.ensures c.farthest_at.ensures refl in
    let row : c.div_ceil-row.result ≡ ceil_div (amount (length c.args.hess.now.rows) (size c.args.j)) c.args.scale =
    quotient_is _ _ _ _ _ c.requires.some c.div_ceil-row.ensures (rw c.requires.square at c.farthest_row.ensures) refl in
    kept c.limited_sum.result (ap (λ n. n + c.div_ceil-row.result) c.in_ok-limited_product.ensures.1 ∙ (λ i. own i * c.args.combined + row i)) c.limited_sum.ensures
