-- The first line of bytes at which they are no listing's text.
use Rattle.std.specs.Prelude.{ℕ, List}
use Rattle.text_lines.specs.FirstLine.{IsBadLineOf}
use Rattle.mac_listing.specs.Listing.{Instructions}
use Rattle.mac_listing.specs.Text.{IsListingText}

-- the bytes are the text of a listing
pub record IsSomeListing (bytes : List ℕ) : Type 0 where
  pub numbers : Instructions
  pub text : IsListingText bytes numbers

-- the bytes are no listing's text, and this is the first line at which they aren't
abbrev pub IsBadListingLine : List ℕ → ℕ → Type 0
IsBadListingLine bytes l = IsBadLineOf IsSomeListing bytes l
