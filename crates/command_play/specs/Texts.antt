-- Which bytes are the text of a listing, and with which status others are refused.
use Rattle.std.specs.Prelude.{◌≡◌, ℕ, List}
use Rattle.mac_listing.specs.Listing.{Instructions}
use Rattle.mac_listing.specs.Text.{IsListingText}
use Rattle.mac_listing.specs.FirstLine.{IsBadListingLine}
use Rattle.command_line.specs.Limit.{file_limit}
use Rattle.command_line.specs.Kind.{Kind, whole_kind}
use Rattle.command_line.specs.declared.status.Status.{Status}
use Rattle.command_line.specs.declared.status.Status.TheVariants.{Listing}

abbrev pub ListingRight : Instructions → List ℕ → Type 0
ListingRight l bytes = IsListingText bytes l

-- the status tells the first line at which the bytes of the file at a position are no listing's text
abbrev pub ListingWrong : ℕ → List ℕ → Status → Type 0
ListingWrong file bytes s = (line : ℕ) × IsBadListingLine bytes line × (s ≡ Listing file line)

abbrev pub listing_kind : Kind
listing_kind = whole_kind file_limit ListingRight ListingWrong
