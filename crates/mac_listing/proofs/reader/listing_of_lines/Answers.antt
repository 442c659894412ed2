use Rattle.std.proofs.Common.{sym, subst}
use Rattle.text_lines.specs.Lines.{views}
use Rattle.mac_listing.specs.Listing.{IsListing}
use Rattle.mac_listing.proofs.Read.{whole_listing}
use Rattle.mac_listing.proofs.reader.listing_of_lines.Goals as goal

pub listing_from-requires : goal.listing_from-requires
listing_from-requires c = subst IsListing (sym c.in_ok-parts_of.ensures) (whole_listing (views c.args.lines.now) c.requires)
