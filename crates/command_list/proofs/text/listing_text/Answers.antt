use Rattle.std.proofs.Common.{subst}
use Rattle.std.specs.Prelude.{IfOk}
use Rattle.mac_listing.specs.Listing.{Instructions}
use Rattle.mac_listing.specs.Text.{IsListingText}
use Rattle.command_list.proofs.text.listing_text.Goals as goal

pub returns : goal.returns
returns c = subst (λ (l : Instructions). IfOk c.write_listing.result (λ v. IsListingText v.items l)) c.in_ok-listing.ensures.value c.write_listing.ensures
