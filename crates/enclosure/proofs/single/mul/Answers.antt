use Rattle.std.proofs.Common.{◌^◌, ap, refl, sym, subst, ◌∙◌}
use Rattle.frac_scaled.specs.Enclosures.{Enclosure, divided}
use Rattle.frac_scaled.proofs.EnclosureLaws.{product_law}
use Rattle.enclosure.specs.Values.{pair}
use Rattle.enclosure.specs.Laws.{EnclosesProduct}
use Rattle.enclosure.proofs.GramLaws.{product_near}
use Rattle.enclosure.proofs.single.mul.Goals as goal

pub returns-in_err-whole_product-clause-room : goal.returns-in_err-whole_product-clause-room
returns-in_err-whole_product-clause-room c = rw c.from_residual.ensures c.in_err-whole_product.ensures.room

pub divided-requires-clause-room : goal.divided-requires-clause-room
divided-requires-clause-room c =
    let a = c.args.a in
    let b = c.args.b in
    let whole = c.in_ok-whole_product.field-0 in
    product_near (pair a) (pair b) (pair whole) a.nonnegative b.nonnegative whole.nonnegative c.in_ok-whole_product.ensures.value (c.in_ok-whole_product.ensures.room.0 refl)

pub returns-clause-value : goal.returns-clause-value
returns-clause-value c = c.divided.ensures ∙ ap (λ (e : Enclosure). divided e (2 ^ 40)) c.in_ok-whole_product.ensures.value

pub returns-clause-room : goal.returns-clause-room
returns-clause-room c = (λ h. c.in_ok-whole_product.ensures.room.0 refl, λ h. refl)

pub returns-clause-encloses : goal.returns-clause-encloses
returns-clause-encloses c =
    subst (λ (e : Enclosure). EnclosesProduct (pair c.args.a) (pair c.args.b) e) (sym (returns-clause-value c)) (product_law (pair c.args.a) (pair c.args.b))
