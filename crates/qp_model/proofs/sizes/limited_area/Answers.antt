use Rattle.std.proofs.Common.{◌≡◌, ◌^◌, ◌∙◌, sym}
use Rattle.integer_algebra.proofs.PowerLaws.{pow-two}
use Rattle.qp_model.proofs.SizeFacts.{square_under}
use Rattle.qp_model.proofs.sizes.limited_area.Goals as goal

pub returns-in_err-limited_product : goal.returns-in_err-limited_product
returns-in_err-limited_product c = rw c.from_residual.ensures (λ h. c.in_err-limited_product.ensures (square_under c.args.count c.args.side _ c.requires h))

pub returns : goal.returns
returns c =
    let e : c.args.side ^ 2 ≡ c.in_ok-limited_product.field-0 = pow-two c.args.side ∙ sym c.in_ok-limited_product.ensures.1 in
    rw e c.limited_product-2.ensures
