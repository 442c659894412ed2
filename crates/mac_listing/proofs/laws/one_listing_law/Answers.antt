use Rattle.mac_listing.proofs.Texts.{one_listing}
use Rattle.mac_listing.proofs.laws.one_listing_law.Goals as goal

pub returns : goal.returns
returns c = one_listing
