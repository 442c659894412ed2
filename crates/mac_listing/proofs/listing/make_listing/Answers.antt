use Rattle.std.proofs.Common.{◌≡◌, ◌+◌, ◌∙◌, length, ap, sym, subst}
use Rattle.qp_model.specs.machine.Controller.{Numbers, numbers}
use Rattle.mac_listing.specs.Count.{left_out, full_length}
use Rattle.mac_listing.specs.Listing.{Instructions, IsListing}
use Rattle.mac_listing.proofs.Lengths.{length_law}
use Rattle.mac_listing.proofs.Ranges.{listing_is}
use Rattle.mac_listing.proofs.listing.make_listing.Goals as goal

pub invariant_of-result : goal.invariant_of-result
invariant_of-result c = subst IsListing (sym c.in_ok-parts_of.ensures) (listing_is (numbers c.parts.result.now) c.parts.ensures.sound)

pub returns-clause-count : goal.returns-clause-count
returns-clause-count c =
    let n = numbers c.parts.result.now in
    subst (λ (m : Numbers). length c.in_ok-parts_of.field-0.body.items + left_out m ≡ full_length m) c.parts.ensures.value
    (ap (λ (l : Instructions). length l.body + left_out n) c.in_ok-parts_of.ensures ∙ length_law n c.parts.ensures.sound)
