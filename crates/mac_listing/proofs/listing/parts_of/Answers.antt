use Rattle.std.proofs.Common.{◌≡◌, ◌∙◌, FitsSigned, arith, rules}
use Rattle.std.specs.Int.{w128}
use Rattle.std.proofs.lemmas.Int.{to_z-of_z}
use Rattle.qp_model.specs.machine.Controller.{numbers, plan_length}
use Rattle.mac_listing.proofs.Ranges.{listing_from}
use Rattle.mac_listing.proofs.listing.parts_of.Goals as goal

pub returns : goal.returns
returns c =
    let n = numbers c.args.c.now in
    let low : c.in_ok-from_slice.field-0.items ≡ n.low = c.in_ok-from_slice.ensures.items ∙ c.deref.ensures.value in
    let high : c.in_ok-from_slice-2.field-0.items ≡ n.high = c.in_ok-from_slice-2.ensures.items ∙ c.deref-2.ensures.value in
    let outputs : c.len-nu.result ≡ plan_length n = omega (arith, c.requires.form.sized.shaped.offsets) in
    let den : FitsSigned w128 c.denominator_of.result = search rules in
    listing_from n c.in_ok-from_slice.field-0.items c.in_ok-from_slice-2.field-0.items c.len-nu.result _ c.in_ok-body_of.field-0.items low high outputs
    (to_z-of_z w128 _ den ∙ c.denominator_of.ensures) c.in_ok-body_of.ensures
