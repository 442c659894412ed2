use Rattle.mac_listing.proofs.Texts.{no_prefix}
use Rattle.mac_listing.proofs.laws.listing_prefix_law.Goals as goal

pub returns : goal.returns
returns c = no_prefix
